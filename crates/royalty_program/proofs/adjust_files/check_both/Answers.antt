use Rattle.std.proofs.Common.{inl, inr}
use Rattle.clap.proofs.TakesLemmas.{passed_up}
use Rattle.royalty_program.specs.AdjustFiles.{IsOfBoth}
use Rattle.royalty_program.proofs.AdjustFileLemmas.{alike, other_lines}
use Rattle.royalty_program.proofs.MergeFileLemmas.{sound_text}
use Rattle.royalty_program.proofs.adjust_files.check_both.Goals as goal

pub returns-in_err-before-clause-files : goal.returns-in_err-before-clause-files
returns-in_err-before-clause-files g c =
    let gives = g.S.Texts.gives c.args.files.now in
    passed_up c.from_residual.result c.in_err-before.field-0.0 (IsOfBoth gives c.args.paid.now c.args.right.now) c.from_residual.ensures.1 (inl c.in_err-before.ensures.refused)

pub returns-in_err-after-clause-files : goal.returns-in_err-after-clause-files
returns-in_err-after-clause-files g c =
    let gives = g.S.Texts.gives c.args.files.now in
    let before = c.in_ok-before.before in
    passed_up c.from_residual-in_err-after.result c.in_err-after.field-0.0 (IsOfBoth gives c.args.paid.now c.args.right.now) c.from_residual-in_err-after.ensures.1
    (inr (inl ((before.lines, sound_text gives c.args.paid.now before.lines before.rows c.in_ok-before.ensures.sound), c.in_err-after.ensures.refused)))

pub returns-then-before-after-clause-files : goal.returns-then-before-after-clause-files
returns-then-before-after-clause-files g c =
    let before = c.in_ok-before.before in
    let after = c.in_ok-after.after in
    other_lines (g.S.Texts.gives c.args.files.now) c.args.paid.now c.args.right.now before.lines before.rows after.lines after.rows c.other_lines.result c.in_ok-before.ensures.sound c.in_ok-after.ensures.sound
    c.if-before-after.true c.other_lines.ensures.other

pub returns-clause-alike : goal.returns-clause-alike
returns-clause-alike g c =
    let before = c.in_ok-before.before in
    let after = c.in_ok-after.after in
    alike (g.S.Texts.gives c.args.files.now) c.args.paid.now c.args.right.now before.lines before.rows after.lines after.rows c.in_ok-before.ensures.sound c.in_ok-after.ensures.sound c.if-before-after.false
