use Rattle.file_sums.proofs.SealLemmas.{one_seal}
use Rattle.file_sums.proofs.laws.law_a_text_is_of_one_seal.Goals as goal

pub returns : goal.returns
returns c = one_seal
