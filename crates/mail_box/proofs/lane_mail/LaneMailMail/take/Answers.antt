use Rattle.std.proofs.Common.{rules, subst, ◌∙◌}
use Rattle.std.specs.Arc.{arc_value}
use Rattle.mail_box.specs.declared.lane_mail.Lanes.{Lanes}
use Rattle.mail_box.specs.Mails.{ReceiverView}
use Rattle.mail_box.specs.LaneViews.{HasTaken, IsWholeAmong, receiver_of}
use Rattle.mail_box.proofs.LaneLists.{whole_all}
use Rattle.mail_box.proofs.lane_mail.LaneMailMail.take.Goals as goal

pub returns-in-Some-take_among : goal.returns-in-Some-take_among
returns-in-Some-take_among g c =
    subst (λ r. HasTaken r (receiver_of c.take_among-2.new.self) c.in-Some-take_among.held) c.in_default.ensures.0 c.in-Some-take_among.ensures

pub returns-in-None : goal.returns-in-None
returns-in-None g c =
    let first = c.in_default.ensures in
    let second = c.in-None.ensures in
    let P : ReceiverView Lanes → Type 0 = λ r. IsWholeAmong 0 c.args.r.now.turn r in
    (second.0 ∙ first.0, whole_all (arc_value c.args.r.now.lanes) _ _ (λ number from to. first.1 number from (search rules)) (subst P first.0 second.1))
