use Rattle.cwr_share.proofs.JoinedClaims.{claims_joined}
use Rattle.cwr_share.proofs.laws.law_claims_of_registrations_add_up.Goals as goal

pub returns : goal.returns
returns c = claims_joined
