use Rattle.std.proofs.Common.{Option, subst, sym}
use Rattle.std.proofs.lemmas.Result.{IfErr-weaker}
use Rattle.std.specs.Option.{IfSome}
use Rattle.std.specs.Prelude.{String, string_bytes}
use Rattle.std.specs.declared.alloc.Global.{Global}
use Rattle.royalty_program.specs.AdjustFiles.{IsAdjustmentOver, IsOfBoth}
use Rattle.royalty_program.specs.Status.{IsOfRunOutput}
use Rattle.royalty_program.specs.Targets.{IsLeftOrHas}
use Rattle.royalty_program.proofs.AdjustFileLemmas.{of_no_output}
use Rattle.royalty_program.proofs.adjust_files.adjust_out.Goals as goal

pub returns-in-None-clause-files : goal.returns-in-None-clause-files
returns-in-None-clause-files g c =
    let gives = g.S.Texts.gives c.args.files.now in
    let paid = string_bytes c.args.asked.paid in
    let right = string_bytes c.args.asked.right in
    IfErr-weaker c.adjust_files.result (IsOfBoth gives paid right) (IsOfRunOutput c.args.asked.output (IsOfBoth gives paid right)) (λ failure is. of_no_output gives paid right c.args.asked.output failure is)
    (rw (c.as_str.ensures.value, c.as_str-in-None.ensures.value) at c.adjust_files.ensures.files)

pub returns-in_err-adjust_kept-in-Some-clause-left : goal.returns-in_err-adjust_kept-in-Some-clause-left
returns-in_err-adjust_kept-in-Some-clause-left g c =
    let Left = λ (path : String Global). IsLeftOrHas (g.T.Target.keeps c.args.target.now (string_bytes path)) (g.T.Target.keeps c.adjust_kept.new.target (string_bytes path))
    (IsAdjustmentOver (g.S.Texts.gives c.args.files.now) (string_bytes c.args.asked.paid) (string_bytes c.args.asked.right)) in
    subst (λ (output : Option (String Global)). IfSome output Left) (sym c.in-Some.is)
    (rw (c.as_str-in-Some.ensures.value, c.as_str-in-Some-2.ensures.value) at c.in_err-adjust_kept-in-Some.ensures.left)
