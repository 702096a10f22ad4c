use Rattle.tis_tree.proofs.Enclosing.{later_row}
use Rattle.tis_tree.proofs.laws.law_a_later_row_changes_nothing.Goals as goal

pub returns : goal.returns
returns c = later_row
