use Rattle.std.proofs.Common.{arith, ap, get_or, length, sym, ◌*◌, ◌+◌, ◌-◌, ◌<◌, ◌≡◌, ◌++◌, ◌∙◌, ℕ}
use Rattle.std.proofs.lemmas.Option.{get_or_from_slice_get}
use Rattle.payee_book.specs.Run.{portion_for, posting_of}
use Rattle.split_run.specs.Blocks.{postings_in}
use Rattle.split_run.specs.Divisions.{division_by}
use Rattle.split_run.proofs.SendingLemmas.{sent_both, sent_same, spent_both, spent_less}
use Rattle.split_run.proofs.WorkingLemmas.{block_whole, few_from, line_here, line_more, postings_from, still_ready}
use Rattle.split_run.proofs.working.work_block.Goals as goal

pub work_line-requires-clause-ready : goal.work_line-requires-clause-ready
work_line-requires-clause-ready g c κs within =
    let usage = c.args.inputs.usage.now in
    let division = division_by c.args.inputs.tis.now c.args.inputs.registry.now in
    let first = 64 * c.args.block in
    let place = c.loop-place.place in
    still_ready g.B.Mailboxes.is_shared (g.B.Mailboxes.senders c.args.senders.now) (g.B.Mailboxes.senders c.loop-place.senders) (λ account. postings_from division account usage first (place - first)) (length usage - first) 1
    c.requires.ready c.loop-place.invariant.sent
    (spent_less g.B.Mailboxes.is_shared (g.B.Mailboxes.senders c.args.senders.now) (g.B.Mailboxes.senders c.loop-place.senders) (257 * (place - first)) (257 * (length usage - first - 1))
    (omega (arith, c.loop-place-test.true, c.min-end.ensures, c.len-lines.ensures.lines, c.loop-place.auto.place)) c.loop-place.invariant.spent)
    (omega (arith, c.requires.block))
    (λ account. omega (arith, few_from division account usage first (place - first), c.loop-place-test.true, c.min-end.ensures, c.len-lines.ensures.lines, c.loop-place.auto.place))

pub loop-place-preserved : goal.loop-place-preserved
loop-place-preserved g c =
    let usage = c.args.inputs.usage.now in
    let division = division_by c.args.inputs.tis.now c.args.inputs.registry.now in
    let first = 64 * c.args.block in
    let place = c.loop-place.place in
    let inside : place < length usage = omega (arith, c.loop-place-test.true, c.min-end.ensures, c.len-lines.ensures.lines) in
    let here = line_here usage place inside in
    let line = here.0 in
    let back : first + (place - first) ≡ place = omega (arith, c.loop-place.auto.place) in
    let count : (place - first) + 1 ≡ (place + 1) - first = omega (arith, c.loop-place.auto.place) in
    record {
      sent = sent_same g.B.Mailboxes.is_shared (g.B.Mailboxes.senders c.args.senders.now) (g.B.Mailboxes.senders c.work_line.new.senders)
          (λ account. postings_from division account usage first (place - first) ++ posting_of place (portion_for account (division line)))
          (λ account. postings_from division account usage first ((place + 1) - first))
          (sent_both g.B.Mailboxes.is_shared (g.B.Mailboxes.senders c.args.senders.now) (g.B.Mailboxes.senders c.loop-place.senders) (g.B.Mailboxes.senders c.work_line.new.senders)
          (λ account. postings_from division account usage first (place - first)) (λ account. posting_of place (portion_for account (division line)))
          c.loop-place.invariant.sent (c.work_line.ensures.sent c.if-not-work_line.false line here.1))
          (λ account.
          ap (λ (n : ℕ). postings_from division account usage first (place - first) ++ posting_of n (portion_for account (division line))) (sym back)
          ∙ (line_more division account usage first (place - first) line (omega (arith, back, inside)) (ap (λ (n : ℕ). get_or usage n line) back ∙ get_or_from_slice_get usage place line line here.1)
          ∙ ap (postings_from division account usage first) count));
      spent = spent_less g.B.Mailboxes.is_shared (g.B.Mailboxes.senders c.args.senders.now) (g.B.Mailboxes.senders c.work_line.new.senders) (257 * (place - first) + 257) (257 * ((place + 1) - first)) (omega (arith, count))
          (spent_both g.B.Mailboxes.is_shared (g.B.Mailboxes.senders c.args.senders.now) (g.B.Mailboxes.senders c.loop-place.senders) (g.B.Mailboxes.senders c.work_line.new.senders) (257 * (place - first)) 257
          c.loop-place.invariant.sent.count c.loop-place.invariant.spent (c.work_line.ensures.spent c.if-not-work_line.false));
      claims = c.work_line.ensures.rooms.0 ∙ c.loop-place.invariant.claims;
      portions = c.work_line.ensures.rooms.1 ∙ c.loop-place.invariant.portions;
    }

pub returns-clause-sent : goal.returns-clause-sent
returns-clause-sent g c = λ yes.
    let usage = c.args.inputs.usage.now in
    let division = division_by c.args.inputs.tis.now c.args.inputs.registry.now in
    let first = 64 * c.args.block in
    let place = c.loop-place.place in
    let end = c.min-end.result in
    let same : place - first ≡ end - first = omega (arith, c.loop-place-test.false, c.loop-place.auto.place, c.loop-place.auto.place-end, c.min-end.ensures, c.len-lines.ensures.lines, c.requires.block) in
    sent_same g.B.Mailboxes.is_shared (g.B.Mailboxes.senders c.args.senders.now) (g.B.Mailboxes.senders c.loop-place.senders) (λ account. postings_from division account usage first (place - first)) (λ account. postings_in division usage account c.args.block)
    c.loop-place.invariant.sent
    (λ account. ap (postings_from division account usage first) same ∙ block_whole division account usage c.args.block end (omega (arith, c.min-end.ensures, c.len-lines.ensures.lines)) c.requires.block)

pub returns-clause-spent : goal.returns-clause-spent
returns-clause-spent g c = λ yes.
    let usage = c.args.inputs.usage.now in
    let first = 64 * c.args.block in
    spent_less g.B.Mailboxes.is_shared (g.B.Mailboxes.senders c.args.senders.now) (g.B.Mailboxes.senders c.loop-place.senders) (257 * (c.loop-place.place - first)) (257 * ((length usage - first) - (length usage - 64 * (c.args.block + 1))))
    (omega (arith, c.loop-place-test.false, c.loop-place.auto.place, c.loop-place.auto.place-end, c.min-end.ensures, c.len-lines.ensures.lines, c.requires.block)) c.loop-place.invariant.spent
