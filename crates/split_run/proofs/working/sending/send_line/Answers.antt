use Rattle.std.proofs.Common.{ℤ, pos, arith, ap, get_or, length, subst, sym, take, ℕ, ◌++◌, ◌+◌, ◌<◌, ◌∙◌}
use Rattle.std.proofs.lemmas.List.{length-map, take_more}
use Rattle.line_split.proofs.ByAccount.{account_at}
use Rattle.payee_book.specs.Run.{portion_for, posting_of}
use Rattle.payee_book.proofs.RunLemmas.{portion_none}
use Rattle.split_run.specs.Sending.{HaveSent, postings_to}
use Rattle.std.proofs.lemmas.Int.{to_z-of_z}
use Rattle.std.proofs.Common.{rules, w64}
use mir.Val.{SFits}
use Rattle.split_run.proofs.SendingLemmas.{no_posting, others_before, posting_step, sent_both, sent_same, spent_both, spent_less, still_open}
use Rattle.split_run.proofs.working.sending.send_line.Goals as goal

pub send_portion-requires-clause-account : goal.send_portion-requires-clause-account
send_portion-requires-clause-account g c κs within =
    let below = c.requires.accounts c.loop-portion.portion-index 0 (rw (length-map c.args.portions.now (λ (portion : ℕ × ℤ). portion.0)) c.loop-portion-test.true) in
    let at = account_at c.args.portions.now c.loop-portion.portion-index 0 (0, pos 0) c.loop-portion-test.true in
    omega (arith, below, at, c.loop-portion.invariant.sent.count)

pub send_portion-requires-clause-ready : goal.send_portion-requires-clause-ready
send_portion-requires-clause-ready g c κs within = λ s.
    let i = c.loop-portion.portion-index in
    let p = get_or c.args.portions.now i (0, pos 0) in
    let before = g.B.Mailboxes.senders c.args.senders.now in
    let at = account_at c.args.portions.now i 0 (0, pos 0) c.loop-portion-test.true in
    let low = c.requires.accounts i 0 (rw (length-map c.args.portions.now (λ (portion : ℕ × ℤ). portion.0)) c.loop-portion-test.true) in
    let below : p.0 < length before = omega (arith, low, at) in
    let none = portion_none p.0 (take i c.args.portions.now) (others_before c.args.portions.now i c.loop-portion-test.true c.requires.once) in
    still_open g.B.Mailboxes.is_shared (get_or before p.0 s) (get_or (g.B.Mailboxes.senders c.loop-portion.senders) p.0 s) (posting_of c.args.line (portion_for p.0 (take i c.args.portions.now))) i
    (c.requires.ready p.0 s below) (c.loop-portion.invariant.sent.each p.0 s below) (no_posting c.args.line (portion_for p.0 (take i c.args.portions.now)) none)
    (omega (arith, c.loop-portion-test.true, c.requires.few)) (λ shared. c.loop-portion.invariant.spent shared p.0 s below)

pub loop-portion-preserved : goal.loop-portion-preserved
loop-portion-preserved g c =
    let i = c.loop-portion.portion-index in
    let p = get_or c.args.portions.now i (0, pos 0) in
    let taken = take i c.args.portions.now in
    let was = g.B.Mailboxes.senders c.args.senders.now in
    let now = g.B.Mailboxes.senders c.loop-portion.senders in
    let after = g.B.Mailboxes.senders c.send_portion.new.senders in
    let is_shared = g.B.Mailboxes.is_shared in
    let none = portion_none p.0 taken (others_before c.args.portions.now i c.loop-portion-test.true c.requires.once) in
    let more = take_more c.args.portions.now i (0, pos 0) c.loop-portion-test.true in
    let fits : SFits w64 p.1 = search rules in
    let sent = subst (λ (a : ℤ). HaveSent is_shared now after (postings_to p.0 (posting_of c.args.line a))) (to_z-of_z w64 p.1 fits) (c.send_portion.ensures.sent c.if-not-send_portion.false) in
    record {
      sent = sent_same is_shared was after
          (λ account. posting_of c.args.line (portion_for account taken) ++ postings_to p.0 (posting_of c.args.line p.1) account)
          (λ account. posting_of c.args.line (portion_for account (take (i + 1) c.args.portions.now)))
          (sent_both is_shared was now after (λ account. posting_of c.args.line (portion_for account taken)) (postings_to p.0 (posting_of c.args.line p.1)) c.loop-portion.invariant.sent sent)
          (λ account. posting_step c.args.line taken p none account ∙ ap (λ l. posting_of c.args.line (portion_for account l)) (sym more));
      spent = spent_both is_shared was now after i 1 c.loop-portion.invariant.sent.count c.loop-portion.invariant.spent (c.send_portion.ensures.spent c.if-not-send_portion.false);
    }

pub returns-clause-spent : goal.returns-clause-spent
returns-clause-spent g c = λ yes.
    spent_less g.B.Mailboxes.is_shared (g.B.Mailboxes.senders c.args.senders.now) (g.B.Mailboxes.senders c.loop-portion.senders) c.loop-portion.portion-index 257
    (omega (arith, c.requires.few, c.loop-portion.auto.portion-index-end)) c.loop-portion.invariant.spent
