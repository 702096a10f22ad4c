use Rattle.explanation_laws.proofs.SubmittedReports.{first_is_of_run}
use Rattle.explanation_laws.proofs.laws.law_the_first_fault_of_a_report_on_submitters_refuses_a_run.Goals as goal

pub returns : goal.returns
returns g c = λ names paths inputs found fault paired is.
    first_is_of_run names paths (g.F.SubmitterFiles.holds c.args.files.now) inputs found paired is (g.F.SubmitterFiles.refuses c.args.files.now) fault
