use Rattle.std.proofs.Common.{◌≡◌}
use Rattle.mail_box.specs.LaneViews.{IsWholeAmong, receiver_of}
use Rattle.mail_box.proofs.lane_mail.LaneReceiver.take_among.Given as goal

abbrev pub invariant-loop-lane : goal.invariant-loop-lane
invariant-loop-lane g l = (receiver_of l.self ≡ receiver_of l.initial.self) × IsWholeAmong l.from l.lane (receiver_of l.initial.self)
