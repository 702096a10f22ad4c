use Rattle.csv_table.proofs.ItemWalks.{read_up_to_a_fault}
use Rattle.tis_tree.specs.TisRows.{territory_rules}
use Rattle.tis_tree.proofs.laws.law_the_first_row_left_out_is_the_fault.Goals as goal

pub returns : goal.returns
returns c = read_up_to_a_fault territory_rules
