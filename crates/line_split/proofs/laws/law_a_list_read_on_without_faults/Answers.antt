use Rattle.csv_table.proofs.ItemWalks.{read_without_faults}
use Rattle.line_split.specs.UsageTable.{usage_rules}
use Rattle.line_split.proofs.laws.law_a_list_read_on_without_faults.Goals as goal

pub returns : goal.returns
returns c = read_without_faults usage_rules
