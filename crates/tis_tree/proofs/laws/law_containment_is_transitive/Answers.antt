use Rattle.tis_tree.proofs.Enclosing.{transitive}
use Rattle.tis_tree.proofs.laws.law_containment_is_transitive.Goals as goal

pub returns : goal.returns
returns c = transitive
