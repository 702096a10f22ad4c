use Rattle.cwr_share.proofs.LawLemmas.{claims_renamed}
use Rattle.cwr_share.proofs.laws.law_names_do_not_matter.Goals as goal

pub returns : goal.returns
returns c = claims_renamed
