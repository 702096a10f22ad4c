use Rattle.std.specs.Prelude.{◌≡◌, All, vec_items}
use Rattle.mail_rows.proofs.mails.lived.Given as goal

abbrev pub invariant-loop-line : goal.invariant-loop-line
invariant-loop-line g l =
    All (λ s. (g.M.Mail.sender s).mailbox ≡ (g.M.Mail.receiver l.ends.receiver).mailbox) (vec_items l.ends.senders)
