use Rattle.submitted_laws.proofs.Alike.{statements_alike}
use Rattle.submitted_laws.proofs.laws.law_statements_go_by_claims_and_accounts.Goals as goal

pub returns : goal.returns
returns c = λ tables other text alike. statements_alike tables other alike text
