use Rattle.payee_portions.proofs.LandLemmas.{territories_counted, territories_summed}
use Rattle.payee_portions.proofs.laws.law_territories_add_up.Goals as goal

pub returns-clause-amounts : goal.returns-clause-amounts
returns-clause-amounts c = territories_summed

pub returns-clause-counts : goal.returns-clause-counts
returns-clause-counts c = territories_counted
