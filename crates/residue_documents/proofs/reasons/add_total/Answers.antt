use Rattle.std.proofs.Common.{rules}
use Rattle.std.proofs.lemmas.Int.{to_z-of_z}
use Rattle.std.proofs.lemmas.Result.{IfOk-equal}
use mir.Syntax.{w128}
use Rattle.residue_documents.proofs.reasons.add_total.Goals as goal

pub returns : goal.returns
returns c =
    IfOk-equal c.add.result _ _ _ c.add.ensures
    (rw (c.row_tag.ensures, to_z-of_z w128 c.amount_of-amount.result (search rules), c.amount_of-amount.ensures, c.lines_of.ensures))
