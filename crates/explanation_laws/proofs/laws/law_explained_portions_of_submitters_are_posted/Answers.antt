use Rattle.explain_line.proofs.Posted.{posted_alike}
use Rattle.explanation_laws.proofs.OneReading.{alike_of}
use Rattle.explanation_laws.proofs.laws.law_explained_portions_of_submitters_are_posted.Goals as goal

pub returns : goal.returns
returns g c = λ names inputs tables of_run statements place line account one read run book row within.
    posted_alike tables of_run (alike_of names (g.F.SubmitterFiles.holds c.args.files.now) inputs one of_run tables run read) statements place line account book row within
