use Rattle.explain_line.proofs.OneExplanation.{alike_of}
use Rattle.explain_line.proofs.Posted.{posted_alike}
use Rattle.explain_line.proofs.laws.law_explained_portions_are_posted.Goals as goal

pub returns : goal.returns
returns c = λ files tables of_run statements place line account read run book row within.
    posted_alike tables of_run (alike_of files of_run tables run read) statements place line account book row within
