use Rattle.std.proofs.Common.{rules, ◌≡◌, ◌∙◌, ◌<◌, ◌+◌, ◌++◌, ◌∷◌, [], ℕ, Bool, List, ap, append-nil, arith, get_or, inl, inr, length, map, refl, string_bytes, subst, sym, take}
use Rattle.std.specs.Prelude.{◌&&◌}
use Rattle.std.proofs.lemmas.List.{length-map, length-take-le, map_push, take_all, take_more}
use Rattle.std.proofs.lemmas.Result.{err_from_is_err_and}
use Rattle.check_inputs.specs.SubmittedReport.{file_facts, file_faults, file_remark, unlinked_remark}
use Rattle.check_inputs.proofs.FilesRead.{and_true, held_before, none_told, one_more, pages_next}
use Rattle.check_inputs.proofs.submitted_files.read_files.Goals as goal

pub loop-place-init : goal.loop-place-init
loop-place-init g c =
    let (no_works, no_words, sound) = c.none-read.ensures in
    let pages = c.args.pages.now in (
      [],
      record {
        are = record { paths_are = refl; each = λ place d within. absurd (omega (arith, within)) };
        works_are = sym no_works;
        unlinked_are = no_words ∙ sym (none_told c.args.works.now.links c.args.works.now.names);
        sound_is = sound;
      },
      record {
        in_words = sym (append-nil pages.sheet.faults.items);
        in_numbers = sym (append-nil pages.sheet.facts.items);
        in_remarks = sym (append-nil pages.remarks.items);
        sound = and_true pages.sheet.is_sound ∙ ap (λ (b : Bool). pages.sheet.is_sound && b) (sym sound);
      },
    )

pub loop-place-preserved : goal.loop-place-preserved
loop-place-preserved g c =
    let (found, are, on) = c.loop-place.invariant in
    let (file, is, next) = c.in_ok-in_force.ensures in
    let place = c.loop-place.place in
    let all = c.args.paths.now in
    let text = c.index-paths-place.result in
    let path = c.as_str-path.result.now in
    let bytes = c.as_slice-bytes.result.now in
    let works = c.args.works.now in
    let within : place < length all = c.loop-place-test.true in
    let before : List (List ℕ) = map (λ path. string_bytes path) (take place all) in
    let more : map (λ path. string_bytes path) (take (place + 1) all) ≡ before ++ path ∷ [] =
    ap (λ l. map (λ path. string_bytes path) l) (take_more all place text within ∙ ap (λ s. take place all ++ s ∷ []) (sym c.index-paths-place.is))
    ∙ (map_push (λ path. string_bytes path) (take place all) text ∙ ap (λ (p : List ℕ). before ++ p ∷ []) (sym c.as_str-path.ensures.value)) in
    let count : length before ≡ place = length-map (take place all) (λ path. string_bytes path) ∙ length-take-le place all (omega (arith, within)) in
    let items : c.push.new.self.items ≡ c.loop-place.read.in_force.items ++ c.in_ok-in_force.in_force ∷ [] = search rules in
    let told = subst (λ n. c.add_unlinked_remark.new.text.items ≡ c.loop-place.read.unlinked.items ++ unlinked_remark works.links (get_or works.names n []) path bytes) (sym count)
    c.in_ok-add_unlinked_remark.ensures in
    let holds = g.F.SubmitterFiles.holds c.args.files.now in
    let held : holds (length before) bytes =
    subst (λ n. holds n bytes) (sym count) (subst (λ (b : List ℕ). holds place b) (sym c.as_slice-bytes.ensures.value) c.in_ok-bytes.ensures.held) in (
      found ++ file ∷ [],
      rw more
          (one_more holds before path bytes works found c.loop-place.read _ file c.in_ok-in_force.in_force c.in_ok-in_force.is_sound are is held
          (omega (arith, count, within, c.requires)) items told c.both.ensures),
      rw c.both.ensures
          (pages_next file_faults file_facts (file_remark c.args.tis_faults c.args.territories.now) c.args.pages.now c.loop-place.pages c.read_one.new.pages c.loop-place.read.are_sound
          c.in_ok-in_force.is_sound found file on next),
    )

pub returns-in_err-bytes-clause-fault : goal.returns-in_err-bytes-clause-fault
returns-in_err-bytes-clause-fault g c =
    let (found, are, on) = c.loop-place.invariant in
    let place = c.loop-place.place in
    let all = c.args.paths.now in
    let before : List (List ℕ) = map (λ path. string_bytes path) (take place all) in
    let count : length before ≡ place = length-map (take place all) (λ path. string_bytes path) ∙ length-take-le place all (omega (arith, c.loop-place-test.true)) in
    let exit = err_from_is_err_and c.from_residual.result c.from_residual.ensures.1 in
    let holds = g.F.SubmitterFiles.holds c.args.files.now in
    rw (exit.1, exit.2)
    (elim c.in_err-bytes.ensures.fault [
      | inl room ↦ inl room
      | inr (is, refused) ↦ inr (rw is (c.loop-place-test.true, refused, held_before holds before c.args.works.now found c.loop-place.read place are count))
    ])

pub returns-clause-read : goal.returns-clause-read
returns-clause-read g c =
    let (found, are, on) = c.loop-place.invariant in
    (found, rw (take_all c.loop-place.place c.args.paths.now c.loop-place-test.false) at are, on)
