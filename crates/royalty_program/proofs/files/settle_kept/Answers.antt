use Rattle.std.specs.Prelude.{String, string_bytes}
use Rattle.std.specs.declared.alloc.Global.{Global}
use Rattle.royalty_program.specs.RunInputs.{IsOfInputs, IsOfSomeInputOf}
use Rattle.royalty_program.proofs.OutputLemmas.{nothing_replaced}
use Rattle.royalty_program.proofs.OverLemmas.{no_replaces, unkept_of_run}
use Rattle.royalty_program.proofs.files.settle_kept.Goals as goal

pub returns-in-Err-begin-clause-files : goal.returns-in-Err-begin-clause-files
returns-in-Err-begin-clause-files g c =
    rw c.unkept-in-Err-begin.ensures (unkept_of_run (g.S.Source.holds c.args.files.now) (g.S.Source.refuses c.args.files.now) c.args.asked.inputs c.args.path _)

pub returns-clause-replaces : goal.returns-clause-replaces
returns-clause-replaces g c =
    let IsOf = IsOfInputs (g.S.Source.holds c.args.files.now) (g.S.Source.refuses c.args.files.now) c.args.asked.inputs in
    let Q = λ (at : String Global). IsOfSomeInputOf (g.T.Target.one_file c.args.target.now (string_bytes at)) c.args.asked.inputs in
    nothing_replaced c.finish.result c.settle_files-written.result c.args.path IsOf Q _ c.finish.ensures.failure c.settle_files-written.ensures.files
    (no_replaces (g.S.Source.holds c.args.files.now) (g.S.Source.refuses c.args.files.now) c.args.asked.inputs)
