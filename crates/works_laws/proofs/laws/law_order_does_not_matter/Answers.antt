use Rattle.works_laws.proofs.Moved.{accounts_moved, answers_moved}
use Rattle.works_laws.proofs.laws.law_order_does_not_matter.Goals as goal

pub returns-clause-accounts : goal.returns-clause-accounts
returns-clause-accounts c = λ files others links moved rows mixed registered other reordered of is other_of other_is.
    accounts_moved files others links moved rows mixed reordered registered other of is other_of other_is

pub returns-clause-claims : goal.returns-clause-claims
returns-clause-claims c = λ files others links moved rows mixed registered other reordered of is other_of other_is table line.
    (answers_moved files others links moved rows mixed reordered registered other of is other_of other_is table line).0

pub returns-clause-reason : goal.returns-clause-reason
returns-clause-reason c = λ files others links moved rows mixed registered other reordered of is other_of other_is table line.
    (answers_moved files others links moved rows mixed reordered registered other of is other_of other_is table line).1
