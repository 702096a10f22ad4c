use Rattle.distribution_documents.proofs.Balance.{in_balance}
use Rattle.distribution_documents.proofs.laws.law_the_overview_is_in_balance.Goals as goal

pub returns : goal.returns
returns c = λ run residue divided is. in_balance run residue divided is
