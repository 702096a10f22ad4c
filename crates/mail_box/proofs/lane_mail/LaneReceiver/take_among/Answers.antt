use Rattle.std.proofs.Common.{subst, ◌+◌, ◌∙◌}
use Rattle.mail_box.specs.declared.lane_mail.Lanes.{Lanes}
use Rattle.mail_box.specs.Mails.{ReceiverView}
use Rattle.mail_box.specs.LaneViews.{HasTaken, IsWholeAmong, receiver_of}
use Rattle.mail_box.proofs.LaneLists.{whole_more}
use Rattle.mail_box.proofs.lane_mail.LaneReceiver.take_among.Goals as goal

pub returns-in-Some : goal.returns-in-Some
returns-in-Some g c =
    subst (λ r. HasTaken r (receiver_of c.take_from.new.self) c.in-Some.held) c.loop-lane.invariant.0 c.in-Some.ensures

pub loop-lane-preserved : goal.loop-lane-preserved
loop-lane-preserved g c =
    let was = c.loop-lane.invariant in
    let now = c.in_default.ensures in
    let P : ReceiverView Lanes → Type 0 = λ r. IsWholeAmong c.loop-lane.lane (c.loop-lane.lane + 1) r in
    (now.0 ∙ was.0, whole_more (receiver_of c.args.self.now) _ _ was.1 (subst P was.0 now.1))
