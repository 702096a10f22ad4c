use Rattle.merge_statements.proofs.Merges.{is_merged, own_merge}
use Rattle.merge_statements.proofs.laws.law_one_text_is_its_own_merge.Goals as goal

pub returns-clause-merged : goal.returns-clause-merged
returns-clause-merged c = is_merged

pub returns-clause-alone : goal.returns-clause-alone
returns-clause-alone c = own_merge
