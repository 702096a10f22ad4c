use Rattle.explanation_laws.proofs.SubmittedReports.{sound_exactly}
use Rattle.explanation_laws.proofs.laws.law_a_report_on_submitters_is_sound_where_no_input_has_a_fault.Goals as goal

pub returns : goal.returns
returns g c = λ names paths inputs found paired one is. sound_exactly names paths (g.F.SubmitterFiles.holds c.args.files.now) inputs found paired is one
