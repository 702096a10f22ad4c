use Rattle.merge_statements.proofs.Joining.{have_merge}
use Rattle.merge_statements.proofs.laws.law_statements_have_a_merge.Goals as goal

pub returns : goal.returns
returns c = have_merge
