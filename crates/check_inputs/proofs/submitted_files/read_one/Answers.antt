use Rattle.std.proofs.Common.{◌∙◌, ap, refl, sym}
use Rattle.std.specs.Prelude.{◌==◌}
use Rattle.cwr_share.specs.Lines.{lines_of}
use Rattle.check_inputs.specs.SubmittedFound.{FileFound}
use Rattle.check_inputs.proofs.FilesRead.{sound_without}
use Rattle.check_inputs.proofs.Telling.{two_behind}
use Rattle.check_inputs.proofs.submitted_files.read_one.Goals as goal

pub add_territories_remark-requires : goal.add_territories_remark-requires
add_territories_remark-requires c none =
    let (out, is, text, count) = c.in_ok-told.ensures in
    sound_without (lines_of c.args.bytes.now) out c.in_ok-told.in_force is (sym count ∙ none)

pub returns : goal.returns
returns c =
    let (out, is, text, count) = c.in_ok-told.ensures in
    let (told, sound) = c.in_ok-add_faults.ensures.told in
    let file : FileFound = record { path = c.args.path.now; bytes = c.args.bytes.now; faults = out; works = c.in_ok-told.in_force } in (
      file,
      record { path_is = refl; bytes_are = refl; is_read = is; works_are = refl; sound_is = ap (λ n. n == 0) count },
      record {
        in_words = rw text at told;
        in_numbers = two_behind _ _ _ _ _ (rw (c.in_ok-add_faults.ensures.facts, count, c.len.ensures.len) at c.in_ok-add_file_facts.ensures) c.in_ok-add_form.ensures;
        in_remarks = rw count at c.in_ok-add_territories_remark.ensures;
        sound = sound;
      },
    )
