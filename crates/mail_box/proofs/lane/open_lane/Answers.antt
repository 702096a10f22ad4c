use Rattle.std.proofs.Common.{rules}
use Rattle.mail_box.proofs.Relays.{begins, forks}
use Rattle.mail_box.proofs.lane.open_lane.Goals as goal

pub ruled-requires-clause-rule : goal.ruled-requires-clause-rule
ruled-requires-clause-rule c = begins

pub another-receiver-requires-clause-rule : goal.another-receiver-requires-clause-rule
another-receiver-requires-clause-rule c = forks _ _ (search rules) (search rules)
