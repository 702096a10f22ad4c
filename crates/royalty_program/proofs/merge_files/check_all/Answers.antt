use Rattle.std.proofs.Common.{map}
use Rattle.std.specs.Prelude.{string_bytes}
use Rattle.clap.proofs.TakesLemmas.{passed_up}
use Rattle.royalty_program.specs.Status.{IsOfTexts}
use Rattle.royalty_program.proofs.MergeFileLemmas.{refused_there, sound_text, sound_there, too_many_there}
use Rattle.royalty_program.proofs.merge_files.check_all.Goals as goal

pub returns-in_err-own-clause-files : goal.returns-in_err-own-clause-files
returns-in_err-own-clause-files g c =
    let gives = g.S.Texts.gives c.args.files.now in
    passed_up c.from_residual.result c.in_err-own.field-0.0 (IsOfTexts gives (map string_bytes c.args.paths.now)) c.from_residual.ensures.1
    (refused_there gives c.args.paths.now c.loop-path.path-index c.path-item.result c.loop-path.lines c.in_err-own.field-0.0 c.loop-path-test.true c.path-item.is c.loop-path.invariant.0
    (rw c.as_str.ensures.value at c.in_err-own.ensures.refused))

pub returns-in_err-lines-clause-files : goal.returns-in_err-lines-clause-files
returns-in_err-lines-clause-files g c =
    let gives = g.S.Texts.gives c.args.files.now in
    passed_up c.from_residual-in_err-lines.result c.in_err-lines.field-0.0 (IsOfTexts gives (map string_bytes c.args.paths.now)) c.from_residual-in_err-lines.ensures.1
    (too_many_there gives c.args.paths.now c.loop-path.path-index c.path-item.result c.loop-path.lines c.in_ok-own.own.lines c.in_err-lines.field-0.0 c.loop-path-test.true c.path-item.is c.loop-path.invariant.0
    (sound_text gives _ c.in_ok-own.own.lines c.in_ok-own.own.rows (rw c.as_str.ensures.value at c.in_ok-own.ensures.sound)) c.in_err-lines.ensures.failure c.in_err-lines.ensures.many)

pub loop-path-preserved : goal.loop-path-preserved
loop-path-preserved g c = (
  sound_there (g.S.Texts.gives c.args.files.now) c.args.paths.now c.loop-path.path-index c.path-item.result c.loop-path.lines c.in_ok-own.own.lines c.in_ok-lines.lines c.in_ok-lines.ensures.sum
      c.loop-path-test.true c.path-item.is c.loop-path.invariant.0
      (sound_text (g.S.Texts.gives c.args.files.now) _ c.in_ok-own.own.lines c.in_ok-own.own.rows (rw c.as_str.ensures.value at c.in_ok-own.ensures.sound)),
  c.in_ok-lines.ensures.few,
)
