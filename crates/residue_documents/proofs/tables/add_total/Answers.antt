use Rattle.std.proofs.Common.{rules, w64}
use Rattle.std.proofs.lemmas.Int.{to_z-of_z}
use Rattle.std.proofs.lemmas.Result.{IfOk-equal}
use mir.Syntax.{w128}
use Rattle.residue_documents.proofs.tables.add_total.Goals as goal

pub returns : goal.returns
returns c =
    IfOk-equal c.add.result _ _ _ c.add.ensures
    (rw (
      c.work_tag.ensures,
      to_z-of_z w128 c.from.result (search rules),
      c.from.ensures,
      to_z-of_z w64 c.sum_of-sum.result (search rules),
      c.sum_of-sum.ensures,
      c.columns.ensures,
    ))
