use Rattle.mail_box.proofs.Relays.{sends, waits}
use Rattle.mail_box.proofs.lane.push.Goals as goal

pub push_as-requires-clause-rule : goal.push_as-requires-clause-rule
push_as-requires-clause-rule g c = (sends _ _ _ _ c.requires.role c.requires.range, waits _ _ c.requires.role)
