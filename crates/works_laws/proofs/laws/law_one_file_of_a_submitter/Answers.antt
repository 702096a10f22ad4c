use Rattle.works_laws.proofs.OneFile.{accounts_of_one, answers_of_one}
use Rattle.works_laws.proofs.laws.law_one_file_of_a_submitter.Goals as goal

pub returns-clause-accounts : goal.returns-clause-accounts
returns-clause-accounts c = λ name lines rows named links registered joined numbers paid file is of joined_is.
    accounts_of_one name lines rows named links numbers paid registered joined file is of joined_is

pub returns-clause-claims : goal.returns-clause-claims
returns-clause-claims c = λ name lines rows named links registered joined numbers paid file is of joined_is table line.
    (answers_of_one name lines rows named links numbers paid registered joined file is of joined_is table line).0

pub returns-clause-reason : goal.returns-clause-reason
returns-clause-reason c = λ name lines rows named links registered joined numbers paid file is of joined_is table line.
    (answers_of_one name lines rows named links numbers paid registered joined file is of joined_is table line).1
