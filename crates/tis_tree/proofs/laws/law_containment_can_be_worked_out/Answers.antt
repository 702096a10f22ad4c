use Rattle.tis_tree.proofs.WorkedOut.{encloses-Encloses}
use Rattle.tis_tree.proofs.laws.law_containment_can_be_worked_out.Goals as goal

pub returns : goal.returns
returns c = encloses-Encloses
