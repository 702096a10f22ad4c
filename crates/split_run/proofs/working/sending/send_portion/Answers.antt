use Rattle.std.proofs.Common.{ℤ, pos, unsigned_abs, to_z, of_z, w64, arith, [], ◌∷◌, subst, refl, ◌<◌, ◌≡◌}
use Rattle.std.proofs.lemmas.Int.{ints, to_z-of_z}
use Rattle.payee_book.specs.Run.{posting_of}
use Rattle.split_run.specs.Sending.{HaveSent, postings_to}
use Rattle.split_run.proofs.SendingLemmas.{nothing_to, one_to, sent_none, sent_same, spent_none}
use Rattle.split_run.proofs.working.sending.send_portion.Goals as goal

pub returns-then-amount-eq0-clause-sent : goal.returns-then-amount-eq0-clause-sent
returns-then-amount-eq0-clause-sent g c = λ yes.
    let before = g.B.Mailboxes.senders c.args.senders.now in
    let same : to_z w64 (of_z w64 c.args.amount) ≡ c.args.amount = to_z-of_z w64 c.args.amount c.ranges.amount in
    let none : c.args.amount ≡ pos 0 = omega (arith, ints, same, c.if-amount-eq0.true) in
    sent_same g.B.Mailboxes.is_shared before before (λ account. []) (postings_to c.args.account (posting_of c.args.line c.args.amount)) (sent_none g.B.Mailboxes.is_shared before before refl) (nothing_to c.args.account c.args.line c.args.amount none)

pub returns-then-amount-eq0-clause-spent : goal.returns-then-amount-eq0-clause-spent
returns-then-amount-eq0-clause-spent g c = λ yes. let before = g.B.Mailboxes.senders c.args.senders.now in spent_none g.B.Mailboxes.is_shared before before 1 refl

pub returns-clause-sent : goal.returns-clause-sent
returns-clause-sent g c = λ yes.
    let before = g.B.Mailboxes.senders c.args.senders.now in
    let after = g.B.Mailboxes.senders c.send-sent.new.senders in
    let same : to_z w64 (of_z w64 c.args.amount) ≡ c.args.amount = to_z-of_z w64 c.args.amount c.ranges.amount in
    let some : 0 < unsigned_abs c.args.amount = omega (arith, ints, same, c.if-amount-eq0.false) in
    let sent : HaveSent g.B.Mailboxes.is_shared before after (postings_to c.args.account ((c.args.line, c.args.amount) ∷ [])) =
    subst (λ (a : ℤ). HaveSent g.B.Mailboxes.is_shared before after (postings_to c.args.account ((c.args.line, a) ∷ []))) same (rw yes at c.send-sent.ensures.sent) in
    sent_same g.B.Mailboxes.is_shared before after (postings_to c.args.account ((c.args.line, c.args.amount) ∷ [])) (postings_to c.args.account (posting_of c.args.line c.args.amount)) sent (one_to c.args.account c.args.line c.args.amount some)
