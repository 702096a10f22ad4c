use Rattle.merge_laws.proofs.ManyRuns.{runs_have_merge}
use Rattle.merge_laws.proofs.law_texts_of_runs_have_a_merge.Goals as goal

pub returns : goal.returns
returns c = runs_have_merge
