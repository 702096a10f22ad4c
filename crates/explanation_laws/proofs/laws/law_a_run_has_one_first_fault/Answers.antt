use Rattle.explanation_laws.proofs.Reports.{first_is_the_one, one_first_fault_of_run}
use Rattle.explanation_laws.proofs.laws.law_a_run_has_one_first_fault.Goals as goal

pub returns-clause-run : goal.returns-clause-run
returns-clause-run c = λ files fault other is also some no_room. one_first_fault_of_run files fault other some no_room is also

pub returns-clause-report : goal.returns-clause-report
returns-clause-report c = first_is_the_one
