use Rattle.works_laws.proofs.OneLists.{accounts_of_lists, answers_of_lists}
use Rattle.works_laws.proofs.laws.law_one_list_for_many.Goals as goal

pub returns-clause-accounts : goal.returns-clause-accounts
returns-clause-accounts c = λ rows shares_of single_of registered other lists of is other_of other_is.
    accounts_of_lists rows shares_of single_of lists registered other of is other_of other_is

pub returns-clause-claims : goal.returns-clause-claims
returns-clause-claims c = λ rows shares_of single_of registered other lists of is other_of other_is table line.
    (answers_of_lists rows shares_of single_of lists registered other of is other_of other_is table line).0

pub returns-clause-reason : goal.returns-clause-reason
returns-clause-reason c = λ rows shares_of single_of registered other lists of is other_of other_is table line.
    (answers_of_lists rows shares_of single_of lists registered other of is other_of other_is table line).1
