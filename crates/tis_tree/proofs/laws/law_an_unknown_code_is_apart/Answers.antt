use Rattle.tis_tree.proofs.Enclosing.{group_known, land_known}
use Rattle.tis_tree.proofs.laws.law_an_unknown_code_is_apart.Goals as goal

pub returns : goal.returns
returns c = λ table code other new. (λ above. new (group_known table code other above), λ below. new (land_known table other code below))
