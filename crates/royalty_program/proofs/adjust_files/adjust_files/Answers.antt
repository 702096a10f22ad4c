use Rattle.std.proofs.lemmas.Result.{IfErr-weaker}
use Rattle.royalty_program.specs.AdjustFiles.{IsOfBoth, IsOfReading}
use Rattle.royalty_program.proofs.AdjustFileLemmas.{both_of_reading}
use Rattle.royalty_program.proofs.adjust_files.adjust_files.Goals as goal

pub returns-clause-files : goal.returns-clause-files
returns-clause-files g c =
    let gives = g.S.Texts.gives c.args.files.now in
    IfErr-weaker c.adjust_opened.result (IsOfReading gives c.args.paid.now c.args.right.now) (IsOfBoth gives c.args.paid.now c.args.right.now)
    (λ failure is. both_of_reading gives c.args.paid.now c.args.right.now failure c.in_ok-check_both.ensures.alike is) c.adjust_opened.ensures.reading
