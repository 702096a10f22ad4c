use Rattle.csv_table.proofs.ItemWalks.{no_fault}
use Rattle.tis_tree.specs.TisRows.{territory_rules}
use Rattle.tis_tree.proofs.OneTable.{not_refused}
use Rattle.tis_tree.proofs.laws.law_a_table_has_no_fault.Goals as goal

pub returns : goal.returns
returns c = no_fault territory_rules not_refused
