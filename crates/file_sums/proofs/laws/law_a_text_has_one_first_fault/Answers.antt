use Rattle.file_sums.proofs.SealLemmas.{one_fault}
use Rattle.file_sums.proofs.laws.law_a_text_has_one_first_fault.Goals as goal

pub returns : goal.returns
returns c = one_fault
