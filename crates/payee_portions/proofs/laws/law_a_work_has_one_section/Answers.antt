use Rattle.payee_portions.proofs.OneSectionLemmas.{one_section}
use Rattle.payee_portions.proofs.laws.law_a_work_has_one_section.Goals as goal

pub returns : goal.returns
returns c = one_section
