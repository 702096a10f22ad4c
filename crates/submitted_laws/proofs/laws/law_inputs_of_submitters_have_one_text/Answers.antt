use Rattle.submitted_laws.proofs.OneReading.{one_text_of_inputs}
use Rattle.submitted_laws.proofs.laws.law_inputs_of_submitters_have_one_text.Goals as goal

pub returns : goal.returns
returns g c = λ names inputs text other one.
    one_text_of_inputs names (g.F.SubmitterFiles.holds c.args.files.now) inputs one text other
