use Rattle.explanation_laws.proofs.Accounts.{accounts_add_up}
use Rattle.explanation_laws.proofs.Submitters.{submitters_add_up}
use Rattle.explanation_laws.proofs.laws.law_claims_of_submitters_add_up.Goals as goal

pub returns-clause-submitters : goal.returns-clause-submitters
returns-clause-submitters c = submitters_add_up

pub returns-clause-accounts : goal.returns-clause-accounts
returns-clause-accounts c = λ table registered line shares is found. accounts_add_up registered is table line shares found
