use Rattle.merge_statements.proofs.FirstFault.{one_fault}
use Rattle.merge_statements.proofs.laws.law_a_text_has_one_first_fault.Goals as goal

pub returns : goal.returns
returns c = one_fault
