use Rattle.csv_table.proofs.ItemWalks.{read_up_to_a_fault}
use Rattle.line_split.specs.UsageTable.{usage_rules}
use Rattle.line_split.proofs.laws.law_the_first_row_left_out_is_the_fault.Goals as goal

pub returns : goal.returns
returns c = read_up_to_a_fault usage_rules
