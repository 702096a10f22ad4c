use Rattle.std.proofs.Common.{arith}
use Rattle.mail_box.proofs.AwaitedLemmas.{one_taken_in}
use Rattle.mail_box.proofs.shy_mail.ShyMailMail.take_in.Goals as goal

pub invariant_of-r : goal.invariant_of-r
invariant_of-r g c =
    let r = c.args.r.now in
    let fewer = one_taken_in (g.M.Mail.receiver r.receiver) (g.M.Mail.receiver c.take_in.new.r) (g.M.Mail.sender c.args.s) c.take_in.ensures.known in
    record {
      awaits = omega (arith, r.awaits, fewer, c.saturating_sub-r.ensures);
      begins = c.take_in.ensures.begins;
    }
