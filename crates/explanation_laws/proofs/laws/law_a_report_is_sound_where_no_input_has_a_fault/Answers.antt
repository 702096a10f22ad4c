use Rattle.explanation_laws.proofs.Reports.{sound_exactly}
use Rattle.explanation_laws.proofs.laws.law_a_report_is_sound_where_no_input_has_a_fault.Goals as goal

pub returns : goal.returns
returns c = sound_exactly
