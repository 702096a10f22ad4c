use Rattle.std.proofs.Common.{map}
use Rattle.std.specs.Prelude.{string_bytes}
use Rattle.royalty_program.specs.Status.{IsOfOne, IsOfTexts}
use Rattle.std.proofs.lemmas.Result.{IfErr-weaker}
use Rattle.royalty_program.proofs.MergeFileLemmas.{one_of_sound}
use Rattle.royalty_program.proofs.merge_files.merge_files.Goals as goal

pub returns-clause-files : goal.returns-clause-files
returns-clause-files g c =
    let gives = g.S.Texts.gives c.args.files.now in
    let paths = map string_bytes c.args.paths.now in
    let sound = c.in_ok-check_all.ensures.sound in
    IfErr-weaker c.merge_opened.result (IsOfOne gives paths) (IsOfTexts gives paths) (λ failure one. one_of_sound gives paths sound.0 failure sound.1 sound.2 one) c.merge_opened.ensures.one
