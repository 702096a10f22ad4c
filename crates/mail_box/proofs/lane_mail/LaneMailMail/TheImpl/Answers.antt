use Rattle.std.proofs.Common.{◌≡◌}
use Rattle.std.specs.Arc.{arc_value}
use Rattle.mail_box.specs.Mails.{IsAwaited, IsWhole}
use Rattle.mail_box.specs.LaneViews.{HasTaken, receiver_of}
use Rattle.mail_box.proofs.LaneLists.{begins_all, never_busy}
use Rattle.mail_box.proofs.lane_mail.LaneMailMail.TheImpl.Goals as goal

pub take-tells : goal.take-tells
take-tells g c =
    let old = receiver_of c.args.r.now in
    let new = receiver_of c.new.r.now in
    record {
      took = never_busy c.result (HasTaken old new) ((new ≡ old) × IsWhole old) ((new ≡ old) × IsAwaited old) c.ensures;
      begins = begins_all (arc_value c.new.r.now.lanes) _ c.new.r.now.begins;
    }
