use Rattle.explanation_laws.proofs.OneReading.{one_explanation}
use Rattle.explanation_laws.proofs.laws.law_a_row_of_submitters_has_one_explanation.Goals as goal

pub returns : goal.returns
returns g c = λ names inputs row text other one. one_explanation names (g.F.SubmitterFiles.holds c.args.files.now) inputs one row text other
