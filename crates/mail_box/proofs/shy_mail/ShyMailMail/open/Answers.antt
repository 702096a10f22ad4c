use Rattle.std.proofs.Common.{arith, ap, subst, sym}
use Rattle.mail_box.specs.Mails.{Begins}
use Rattle.mail_box.specs.Awaited.{awaited_in}
use Rattle.mail_box.proofs.AwaitedLemmas.{opens_awaiting, opens_beginning}
use Rattle.mail_box.proofs.shy_mail.ShyMailMail.open.Goals as goal

pub invariant_of-receiver : goal.invariant_of-receiver
invariant_of-receiver g c =
    let opened = c.in_ok-sending.ensures.receiver in
    let mailbox = (g.M.Mail.receiver c.in_ok-sending.receiver).mailbox in
    record {
      awaits = omega (arith, ap awaited_in opened, opens_awaiting mailbox c.args.senders);
      begins = subst Begins (sym opened) (opens_beginning mailbox c.args.senders);
    }
