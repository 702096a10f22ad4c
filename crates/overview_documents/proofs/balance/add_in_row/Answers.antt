use Rattle.std.proofs.Common.{rules, w64}
use Rattle.std.proofs.lemmas.Int.{to_z-of_z}
use Rattle.std.proofs.lemmas.Result.{IfOk-equal}
use mir.Syntax.{w128}
use Rattle.overview_documents.proofs.balance.add_in_row.Goals as goal

pub returns : goal.returns
returns c = IfOk-equal c.add.result _ _ _ c.add.ensures (rw (c.row_tag.ensures, to_z-of_z w128 c.from.result (search rules), c.from.ensures, to_z-of_z w64 c.args.sum.amount (search rules)))
