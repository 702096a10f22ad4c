use Rattle.mail_box.proofs.Relays.{learns, takes}
use Rattle.mail_box.proofs.lane.pop.Goals as goal

pub pop_as-requires-clause-rule : goal.pop_as-requires-clause-rule
pop_as-requires-clause-rule g c = (takes _ _ c.requires.role, learns _ _ c.requires.role)
