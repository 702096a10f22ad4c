use Rattle.file_sums.proofs.SealLemmas.{no_seal_with_fault}
use Rattle.file_sums.proofs.laws.law_a_text_with_a_fault_is_of_no_seal.Goals as goal

pub returns : goal.returns
returns c = no_seal_with_fault
