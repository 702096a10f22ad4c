use Rattle.starting_tables.proofs.LawLemmas.{once, shares_found}
use Rattle.starting_tables.proofs.laws.law_rows_are_of_what_is_in_force.Goals as goal

pub returns-clause-shares : goal.returns-clause-shares
returns-clause-shares c = shares_found

pub returns-clause-once : goal.returns-clause-once
returns-clause-once c = once
