use Rattle.csv_table.proofs.ItemWalks.{read_without_faults}
use Rattle.tis_tree.specs.TisRows.{territory_rules}
use Rattle.tis_tree.proofs.laws.law_a_table_read_on_without_faults.Goals as goal

pub returns : goal.returns
returns c = read_without_faults territory_rules
