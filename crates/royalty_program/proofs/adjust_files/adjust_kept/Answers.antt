use Rattle.std.proofs.Common.{◌⊎◌}
use Rattle.std.specs.Prelude.{String, string_bytes}
use Rattle.std.specs.declared.alloc.Global.{Global}
use Rattle.royalty_program.specs.AdjustFiles.{IsOfBoth}
use Rattle.royalty_program.proofs.AdjustFileLemmas.{no_replaces}
use Rattle.royalty_program.proofs.OutputLemmas.{nothing_replaced}
use Rattle.royalty_program.proofs.adjust_files.adjust_kept.Goals as goal

pub returns-clause-replaces : goal.returns-clause-replaces
returns-clause-replaces g c =
    let gives = g.S.Texts.gives c.args.files.now in
    let one_file = g.T.Target.one_file c.args.target.now in
    let Q = λ (at : String Global). one_file (string_bytes at) c.args.paid.now ⊎ one_file (string_bytes at) c.args.right.now in
    nothing_replaced c.finish.result c.adjust_once-written.result c.args.path (IsOfBoth gives c.args.paid.now c.args.right.now) Q _ c.finish.ensures.failure c.adjust_once-written.ensures.files
    (no_replaces gives c.args.paid.now c.args.right.now)
