use Rattle.payee_portions.proofs.SumLemmas.{rights_summed}
use Rattle.payee_portions.proofs.laws.law_rights_add_up.Goals as goal

pub returns : goal.returns
returns c = rights_summed
