use Rattle.mail_box.proofs.LaneLists.{opened_more}
use Rattle.mail_box.proofs.lane_mail.open_lanes.Goals as goal

pub loop-preserved : goal.loop-preserved
loop-preserved c =
    let made = c.in_ok-lane.ensures in
    opened_more _ _ _ _ _ _ _ _ _ _ _ c.in_ok-push.ensures.items c.in_ok-push-2.ensures.items c.in_ok-push-3.ensures.items c.loop.invariant made.lane made.views
