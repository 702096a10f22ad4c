use Rattle.merge_statements.proofs.Merges.{one_merge}
use Rattle.merge_statements.proofs.laws.law_texts_have_one_merge.Goals as goal

pub returns : goal.returns
returns c = one_merge
