use Rattle.node_laws.proofs.Standing.{apart, held, received}
use Rattle.node_laws.proofs.laws.law_seats_under_the_rule.Goals as goal

pub returns-clause-received : goal.returns-clause-received
returns-clause-received c = received

pub returns-clause-held : goal.returns-clause-held
returns-clause-held c = held

pub returns-clause-apart : goal.returns-clause-apart
returns-clause-apart c = apart
