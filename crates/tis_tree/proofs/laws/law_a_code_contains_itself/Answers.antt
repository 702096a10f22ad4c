use Rattle.tis_tree.specs.Territories.{itself}
use Rattle.tis_tree.proofs.Enclosing.{group_known}
use Rattle.tis_tree.proofs.laws.law_a_code_contains_itself.Goals as goal

pub returns : goal.returns
returns c = λ table code. (group_known table code code, itself)
