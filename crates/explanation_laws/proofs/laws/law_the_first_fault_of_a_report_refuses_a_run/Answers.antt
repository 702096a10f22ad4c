use Rattle.explanation_laws.proofs.Reports.{first_is_of_run}
use Rattle.explanation_laws.proofs.laws.law_the_first_fault_of_a_report_refuses_a_run.Goals as goal

pub returns : goal.returns
returns c = first_is_of_run
