use Rattle.std.proofs.Common.{Global, Option, map, subst, sym}
use Rattle.std.specs.Prelude.{String, string_bytes}
use Rattle.clap.proofs.TakesLemmas.{passed_up}
use Rattle.std.specs.Option.{IfSome}
use Rattle.royalty_program.specs.MergeFiles.{IsMergeOver}
use Rattle.royalty_program.specs.Status.{IsOfOutput, IsOfTexts}
use Rattle.royalty_program.specs.Targets.{IsLeftOrHas}
use Rattle.royalty_program.proofs.merge_files.merge_out.Goals as goal

pub returns-in_err-merge_kept-in-Some-clause-files : goal.returns-in_err-merge_kept-in-Some-clause-files
returns-in_err-merge_kept-in-Some-clause-files g c =
    let failure = c.in_err-merge_kept-in-Some.field-0.0 in
    let IsOf = IsOfTexts (g.S.Texts.gives c.args.files.now) (map string_bytes c.args.asked.statements.items) in
    passed_up c.from_residual.result failure (IsOfOutput c.args.asked.output IsOf) c.from_residual.ensures.1
    (subst (λ (output : Option (String Global)). IsOfOutput output IsOf failure) (sym c.in-Some.is) (rw c.as_slice-in-Some.ensures.value at c.in_err-merge_kept-in-Some.ensures.files))

pub returns-in_err-merge_kept-in-Some-clause-left : goal.returns-in_err-merge_kept-in-Some-clause-left
returns-in_err-merge_kept-in-Some-clause-left g c =
    let Left = λ (path : String Global). IsLeftOrHas (g.T.Target.keeps c.args.target.now (string_bytes path)) (g.T.Target.keeps c.merge_kept.new.target (string_bytes path))
    (IsMergeOver (g.S.Texts.gives c.args.files.now) (map string_bytes c.args.asked.statements.items)) in
    subst (λ (output : Option (String Global)). IfSome output Left) (sym c.in-Some.is) (rw c.as_slice-in-Some.ensures.value at c.in_err-merge_kept-in-Some.ensures.left)
