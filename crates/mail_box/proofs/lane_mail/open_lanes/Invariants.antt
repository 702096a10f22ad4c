use Rattle.std.proofs.Common.{vec_items}
use Rattle.mail_box.specs.Lanes.{AreOpened}
use Rattle.mail_box.proofs.lane_mail.open_lanes.Given as goal

abbrev pub invariant-loop : goal.invariant-loop
invariant-loop l = AreOpened (vec_items l.lanes) (vec_items l.sending) (vec_items l.taking) l.counter l.nodes
