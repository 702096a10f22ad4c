use Rattle.explanation_laws.proofs.SubmittedReports.{first_is_the_one, one_first_fault_of_run}
use Rattle.explanation_laws.proofs.laws.law_a_run_over_submitters_has_one_first_fault.Goals as goal

pub returns-clause-run : goal.returns-clause-run
returns-clause-run g c = λ names inputs fault other one apart is also some no_room.
    one_first_fault_of_run names (g.F.SubmitterFiles.holds c.args.files.now) (g.F.SubmitterFiles.refuses c.args.files.now) inputs one apart.none fault other some no_room is also

pub returns-clause-report : goal.returns-clause-report
returns-clause-report g c = λ names paths inputs found fault other paired one apart is.
    first_is_the_one names paths (g.F.SubmitterFiles.holds c.args.files.now) inputs found paired is (g.F.SubmitterFiles.refuses c.args.files.now) one apart.none fault other
