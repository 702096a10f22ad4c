use Rattle.cwr_share.proofs.LawLemmas.{claim_sums}
use Rattle.cwr_share.proofs.laws.law_a_claim_is_the_sum_over_interests_and_parties.Goals as goal

pub returns : goal.returns
returns c = claim_sums
