use Rattle.starting_tables.specs.InForce.{bodies_of, registrations_in_force}
use Rattle.starting_tables.proofs.OrderLemmas.{parties_are, parties_rise}
use Rattle.starting_tables.proofs.laws.law_each_party_has_one_row.Goals as goal

pub returns-clause-order : goal.returns-clause-order
returns-clause-order c = λ lines. parties_rise (bodies_of (registrations_in_force lines))

pub returns-clause-exact : goal.returns-clause-exact
returns-clause-exact c = parties_are
