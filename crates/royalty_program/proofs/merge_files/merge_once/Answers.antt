use Rattle.std.proofs.Common.{map}
use Rattle.std.specs.Prelude.{string_bytes}
use Rattle.royalty_program.proofs.MergeFileLemmas.{one_of_sound}
use Rattle.royalty_program.proofs.merge_files.merge_once.Goals as goal

pub returns-in_ok-check_all-in-Err-clause-files : goal.returns-in_ok-check_all-in-Err-clause-files
returns-in_ok-check_all-in-Err-clause-files g c =
    let sound = c.in_ok-check_all-in-Err.ensures.sound in
    one_of_sound (g.S.Texts.gives c.args.files.now) (map string_bytes c.args.paths.now) sound.0 c.in-Err.failure sound.1 sound.2 c.in-Err.ensures.one
