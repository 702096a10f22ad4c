use Rattle.std.proofs.Common.{arith, refl}
use Rattle.mail_box.proofs.AwaitedLemmas.{is_awaited}
use Rattle.mail_box.proofs.shy_mail.ShyMailMail.take.Goals as goal

pub returns-then-r-gt0-clause-took : goal.returns-then-r-gt0-clause-took
returns-then-r-gt0-clause-took g c =
    let r = c.args.r.now in (refl, is_awaited (g.M.Mail.receiver r.receiver) (omega (arith, c.if-r-gt0.true, r.awaits)))
