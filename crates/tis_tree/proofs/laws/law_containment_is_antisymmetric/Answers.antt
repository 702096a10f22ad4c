use Rattle.tis_tree.proofs.Enclosing.{antisymmetric}
use Rattle.tis_tree.proofs.laws.law_containment_is_antisymmetric.Goals as goal

pub returns : goal.returns
returns c = antisymmetric
