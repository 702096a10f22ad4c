use Rattle.cwr_share.proofs.LawLemmas.{of_no_other_work}
use Rattle.cwr_share.proofs.laws.law_claims_are_of_no_other_work.Goals as goal

pub returns-clause-claims : goal.returns-clause-claims
returns-clause-claims c = λ table registered other line same parties alike. (of_no_other_work table registered other line same parties alike).0

pub returns-clause-reason : goal.returns-clause-reason
returns-clause-reason c = λ table registered other line same parties alike. (of_no_other_work table registered other line same parties alike).1
