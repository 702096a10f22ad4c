use Rattle.csv_table.proofs.ItemWalks.{no_fault}
use Rattle.line_split.specs.UsageTable.{usage_rules}
use Rattle.line_split.proofs.OneTable.{not_refused}
use Rattle.line_split.proofs.laws.law_a_table_of_lines_has_no_fault.Goals as goal

pub returns : goal.returns
returns c = no_fault usage_rules not_refused
