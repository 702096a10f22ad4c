use Rattle.adjustment_laws.proofs.WithDifferences.{merge_of_differences, merged_rest, merged_sum, merged_total}
use Rattle.adjustment_laws.proofs.law_merged_with_the_differences_all_is_right.Goals as goal

pub returns-clause-merge : goal.returns-clause-merge
returns-clause-merge c = merge_of_differences

pub returns-clause-uses : goal.returns-clause-uses
returns-clause-uses c = merged_sum

pub returns-clause-payees : goal.returns-clause-payees
returns-clause-payees c = merged_total

pub returns-clause-reasons : goal.returns-clause-reasons
returns-clause-reasons c = merged_rest
