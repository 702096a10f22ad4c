use Rattle.merge_laws.proofs.OneFile.{as_one_file, merged_as_one_file}
use Rattle.merge_laws.proofs.law_parts_merge_to_a_run_over_one_file.Goals as goal

pub returns-clause-list : goal.returns-clause-list
returns-clause-list c = as_one_file

pub returns-clause-merged : goal.returns-clause-merged
returns-clause-merged c = merged_as_one_file
