use Rattle.std.proofs.Common.{◌≡◌, ◌==◌, false, rules, tests, w64}
use Rattle.std.proofs.lemmas.Int.{to_z-of_z}
use Rattle.std.proofs.lemmas.Result.{IfOk-equal}
use mir.Syntax.{w128}
use Rattle.overview_documents.proofs.heads.add_reversals.Goals as goal

pub returns : goal.returns
returns c =
    let some : (c.args.overview.now.reversals.lines == 0) ≡ false = search (rules, tests) in
    IfOk-equal c.add.result _ _ _ c.add.ensures
    (rw (
      some,
      to_z-of_z w128 c.from.result (search rules),
      c.from.ensures,
      to_z-of_z w64 c.args.overview.now.reversals.amount (search rules),
    ))
