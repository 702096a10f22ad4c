use Rattle.submitted_laws.proofs.OneFile.{text_of_one_file}
use Rattle.submitted_laws.proofs.laws.law_one_file_has_its_own_statements.Goals as goal

pub returns : goal.returns
returns g c = λ name alone inputs text other are.
    text_of_one_file name (g.F.SubmitterFiles.holds c.args.files.now) alone inputs are text other
