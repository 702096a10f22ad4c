use Rattle.std.proofs.Common.{arith, ap, length, subst, sym, ◌≡◌, ◌+◌, ◌∷◌, [], ◌∙◌, ℕ}
use Rattle.std.specs.Prelude.{All, option_map}
use Rattle.std.proofs.lemmas.List.{length-append, length-map}
use Rattle.std.proofs.lemmas.List.Elements.{All-push}
use Rattle.split_run.specs.Reading.{HasKept, inboxes_by}
use Rattle.split_run.specs.Opening.{AreDealt}
use Rattle.split_run.proofs.OpeningLemmas.{dealt_of_left, left_more, pushed_at, untouched_dealt}
use Rattle.split_run.proofs.running.opening.readers_of.Goals as goal

pub new-requires-clause-untouched : goal.new-requires-clause-untouched
new-requires-clause-untouched g c κs within = λ account below.
    let was = inboxes_by g.B.Mailboxes.receiver c.args.inboxes.items in
    let left = inboxes_by g.B.Mailboxes.receiver c.loop-reader.inboxes.items in
    let own = inboxes_by g.B.Mailboxes.receiver c.in_ok-own.own.items in
    untouched_dealt c.args.workers c.args.readers c.loop-reader.reader was own (dealt_of_left c.args.readers c.loop-reader.reader was left c.loop-reader.invariant.left own c.in_ok-own.ensures.own)
    (λ other lt. c.requires.untouched other (omega (arith, lt, c.requires.count, length-map c.args.inboxes.items (option_map g.B.Mailboxes.receiver)))) account
    (omega (arith, below, c.requires.count, length-map c.args.inboxes.items (option_map g.B.Mailboxes.receiver)))

pub loop-reader-preserved : goal.loop-reader-preserved
loop-reader-preserved g c =
    let was = inboxes_by g.B.Mailboxes.receiver c.args.inboxes.items in
    let left = inboxes_by g.B.Mailboxes.receiver c.loop-reader.inboxes.items in
    let reader = c.loop-reader.reader in
    let own = inboxes_by g.B.Mailboxes.receiver c.in_ok-own.own.items in
    let all = c.loop-reader.all.items in
    let new = c.in_ok-new.field-0 in
    record {
      left = left_more c.args.readers reader was left c.loop-reader.invariant.left (inboxes_by g.B.Mailboxes.receiver c.deal.new.inboxes.items)
          (omega (arith, c.in_ok-own.ensures.left, length-map c.deal.new.inboxes.items (option_map g.B.Mailboxes.receiver), length-map c.loop-reader.inboxes.items (option_map g.B.Mailboxes.receiver)))
          c.in_ok-own.ensures.others;
      count = ap length c.in_ok-push.ensures.items ∙ length-append all (new ∷ []) ∙ ap (λ (n : ℕ). n + 1) c.loop-reader.invariant.count;
      dealt = λ k d below.
          pushed_at all c.push.new.self.items new d reader k c.in_ok-push.ensures.items c.loop-reader.invariant.count below (λ r. AreDealt c.args.readers k was (inboxes_by g.B.Mailboxes.receiver r.opened.value.items)) (c.loop-reader.invariant.dealt k d)
          (λ same.
          subst (λ (n : ℕ). AreDealt c.args.readers n was (inboxes_by g.B.Mailboxes.receiver new.opened.value.items)) (sym same)
          (subst (λ v. AreDealt c.args.readers reader was (inboxes_by g.B.Mailboxes.receiver v.items)) (sym c.in_ok-new.ensures.opened.0)
          (dealt_of_left c.args.readers reader was left c.loop-reader.invariant.left own c.in_ok-own.ensures.own)));
      taken = subst (All (λ r. (r.workers ≡ c.args.workers) × HasKept g.B.Mailboxes.receiver r)) (sym c.in_ok-push.ensures.items)
          (All-push (λ r. (r.workers ≡ c.args.workers) × HasKept g.B.Mailboxes.receiver r) all new c.loop-reader.invariant.taken (c.in_ok-new.ensures.opened.1, c.in_ok-new.ensures.taken));
    }
