use Rattle.std.specs.Prelude.{◌≡◌, All, vec_items}
use Rattle.mail_rows.proofs.mails.answers.Given as goal

abbrev pub invariant-loop-question : goal.invariant-loop-question
invariant-loop-question g l =
    All (λ s. (g.M.Mail.sender s).mailbox ≡ (g.M.Mail.receiver l.ends.receiver).mailbox) (vec_items l.ends.senders)
    × ((g.M.Mail.receiver l.ends.receiver).mailbox ≡ (g.M.Mail.receiver l.initial.ends.receiver).mailbox)
