use Rattle.csv_table.proofs.ItemWalks.{one_table}
use Rattle.line_split.specs.UsageTable.{usage_rules}
use Rattle.line_split.proofs.laws.law_rows_are_one_list_of_lines.Goals as goal

pub returns : goal.returns
returns c = one_table usage_rules
