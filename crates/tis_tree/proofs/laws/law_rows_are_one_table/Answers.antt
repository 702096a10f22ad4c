use Rattle.csv_table.proofs.ItemWalks.{one_table}
use Rattle.tis_tree.specs.TisRows.{territory_rules}
use Rattle.tis_tree.proofs.laws.law_rows_are_one_table.Goals as goal

pub returns : goal.returns
returns c = one_table territory_rules
