-- What is found in the files of submitters, as they are read one after another.
use Rattle.std.proofs.Common.{◌≡◌, ◌≢◌, ◌∙◌, ◌⊎◌, ◌+◌, ◌<◌, ◌≤◌, ◌∷◌, ◌++◌, [], ℕ, All, AllPairs, List, Option, Some, ap, arith, get_or, inl, inr, length, map, set, subst, sym, take}
use Rattle.std.specs.Prelude.{slice_get, unwrap_or}
use Rattle.std.proofs.lemmas.Bool.{cases_lt}
use Rattle.std.proofs.lemmas.List.{get_or-map, get_or-set_other, get_or-set_same, get_or-take, get_or_append_left, get_or_push, length-map, length-set, length-take-le, length_push}
use Rattle.std.proofs.lemmas.Option.{get_or_from_slice_get, slice_get-get_or, slice_get_within}
use Rattle.cwr_share.specs.Filed.{IsFiled}
use Rattle.cwr_share.specs.Lines.{lines_of}
use Rattle.cwr_share.specs.Registrations.{find_work}
use Rattle.cwr_share.specs.declared.filed.FiledRegistration.{FiledRegistration}
use Rattle.cwr_share.specs.declared.in_force.InForce.{InForce}
use Rattle.linked_works.proofs.LinkedLemmas.{find_named}
use Rattle.linked_works.specs.Rows.{IsKnownRow}
use Rattle.linked_works.specs.declared.works.WorksRow.{WorksRow}
use Rattle.submitted_inputs.specs.Files.{IsTextRead}
use Rattle.submitted_inputs.proofs.FileLemmas.{Held}
use Rattle.explain_line.specs.LookedAt.{AreFiledBy, AreLookedAt, IsFoundWith, files_by}
use Rattle.explain_line.specs.Submitted.{file_by}

abbrev pub Found : Type 0
Found = Option FiledRegistration

-- some row, where one has to be named
abbrev pub none_row : WorksRow
none_row = record { work = record { ref_ptr = (0, 0); now = [] }; submitter = 0; name = record { ref_ptr = (0, 0); now = [] }; number = record { ref_ptr = (0, 0); now = [] } }

-- a row before a place is a row of all, and the row at it the last before the next
module _ (rows : List WorksRow) (at : ℕ) (within : at < length rows) where
  taken : (k : ℕ) (row : WorksRow) → slice_get (take (at + 1) rows) k ≡ Some row
      → ((k < at) × (slice_get (take at rows) k ≡ Some row)) ⊎ ((k ≡ at) × (get_or rows at row ≡ row))
  taken k row is =
      let low : k < at + 1 = omega (arith, slice_get_within (take (at + 1) rows) k row is, length-take-le (at + 1) rows (omega (arith, within))) in
      let here : get_or rows k row ≡ row = sym (get_or-take (at + 1) rows k row low) ∙ get_or_from_slice_get (take (at + 1) rows) k row row is in
      elim (cases_lt k at) [
        | inl below ↦ inl (
          below,
          slice_get-get_or (take at rows) k row (omega (arith, below, length-take-le at rows (omega (arith, within)))) ∙ ap Some (get_or-take at rows k row below ∙ here),
        )
        | inr high ↦ let same : k ≡ at = omega (arith, low, high) in inr (same, ap (λ n. get_or rows n row) (sym same) ∙ here)
      ]

-- what has been looked at so far, and what has not
pub record SoFar (place : ℕ) (lines : List (List ℕ)) (rows : List WorksRow) (at : ℕ) (old new : List Found) : Type 0 where
  pub found : IsFoundWith place lines (take at rows) old new
  pub rest : (k : ℕ) (d : Found) → at ≤ k → get_or new k d ≡ get_or old k d

module _ (place : ℕ) (lines : List (List ℕ)) (rows : List WorksRow) (at : ℕ) (row : WorksRow) (old mid : List Found) (within : at < length rows)
    (here : get_or rows at row ≡ row) (so_far : SoFar place lines rows at old mid) where
  -- a row of this file
  pub its_row : at < length mid → row.submitter ≡ place → (filed : Found) → IsFiled lines row.number.now filed → SoFar place lines rows (at + 1) old (set mid at filed)
  its_row room is filed found = record {
    found = record {
      all = length-set mid at filed ∙ so_far.found.all;
      its = λ k other d there its. elim (taken rows at within k other there) [
        | inl (below, before) ↦
            let differ : k ≢ at = λ same. omega (arith, below, same) in
            subst (λ (f : Found). IsFiled lines other.number.now f) (sym (get_or-set_other mid at k filed d differ)) (so_far.found.its k other d before its)
        | inr (same, last) ↦
            let one : row ≡ other = sym here ∙ at_any row other last in
            subst (λ (f : Found). IsFiled lines other.number.now f) (sym (get_or-set_same mid at filed d room) ∙ ap (λ n. get_or (set mid at filed) n d) (sym same))
            (subst (λ (r : WorksRow). IsFiled lines r.number.now filed) one found)
      ];
      others = λ k other d there not. elim (taken rows at within k other there) [
        | inl (below, before) ↦ get_or-set_other mid at k filed d (λ same. omega (arith, below, same)) ∙ so_far.found.others k other d before not
        | inr (same, last) ↦ let one : row ≡ other = sym here ∙ at_any row other last in absurd (not (subst (λ (r : WorksRow). r.submitter ≡ place) one is))
      ];
    };
    rest = λ k d above. get_or-set_other mid at k filed d (λ same. omega (arith, above, same)) ∙ so_far.rest k d (omega (arith, above));
  }
    where
      at_any : (row other : WorksRow) → get_or rows at other ≡ other → get_or rows at row ≡ other
      at_any row other last = sym (get_or_from_slice_get rows at (get_or rows at row) other (slice_get-get_or rows at row within)) ∙ last

  -- a row of another file
  pub other_row : ¬ (row.submitter ≡ place) → SoFar place lines rows (at + 1) old mid
  other_row is_not = record {
    found = record {
      all = so_far.found.all;
      its = λ k other d there its. elim (taken rows at within k other there) [
        | inl (below, before) ↦ so_far.found.its k other d before its
        | inr (same, last) ↦
            let one : row ≡ other = sym here ∙ at_any row other last in absurd (is_not (subst (λ (r : WorksRow). r.submitter ≡ place) (sym one) its))
      ];
      others = λ k other d there not. elim (taken rows at within k other there) [
        | inl (below, before) ↦ so_far.found.others k other d before not
        | inr (same, last) ↦ so_far.rest k d (omega (arith, same))
      ];
    };
    rest = λ k d above. so_far.rest k d (omega (arith, above));
  }
    where
      at_any : (row other : WorksRow) → get_or rows at other ≡ other → get_or rows at row ≡ other
      at_any row other last = sym (get_or_from_slice_get rows at (get_or rows at row) other (slice_get-get_or rows at row within)) ∙ last

-- one file more was read and looked at
pub read_more : (holds : ℕ → List ℕ → Type 0) (place : ℕ) (rows : List WorksRow) (read : List InForce) (old new : List Found) (bytes : List ℕ) (in_force : InForce)
    → AreLookedAt holds place rows read old → IsTextRead holds place bytes in_force → IsFoundWith place (lines_of bytes) rows old new
    → AreLookedAt holds (place + 1) rows (read ++ in_force ∷ []) new
read_more holds place rows read old new bytes in_force so_far text found =
    let files = so_far.files ++ bytes ∷ [] in
    record {
      files = files;
      all = omega (arith, length_push so_far.files bytes, so_far.all);
      whole = omega (arith, length_push read in_force, so_far.whole);
      each = λ k d low. elim (cases_lt k place) [
        | inl below ↦
            let one : get_or so_far.files k [] ≡ get_or files k [] = sym (get_or_append_left so_far.files (bytes ∷ []) [] k (omega (arith, below, so_far.all))) in
            let two : get_or read k d ≡ get_or (read ++ in_force ∷ []) k d = sym (get_or_append_left read (in_force ∷ []) d k (omega (arith, below, so_far.whole))) in
            subst (λ (b : List ℕ). IsTextRead holds k b (get_or (read ++ in_force ∷ []) k d)) one (subst (IsTextRead holds k (get_or so_far.files k [])) two (so_far.each k d below))
        | inr high ↦
            let here : k ≡ place = omega (arith, low, high) in
            let one : bytes ≡ get_or files k [] = sym (get_or_push so_far.files bytes [] k (so_far.all ∙ sym here)) in
            let two : in_force ≡ get_or (read ++ in_force ∷ []) k d = sym (get_or_push read in_force d k (so_far.whole ∙ sym here)) in
            subst (λ (b : List ℕ). IsTextRead holds k b (get_or (read ++ in_force ∷ []) k d)) one
            (subst (IsTextRead holds k bytes) two (subst (λ n. IsTextRead holds n bytes in_force) (sym here) text))
      ];
      room = found.all ∙ so_far.room;
      shown = λ k row d there low. elim (cases_lt row.submitter place) [
        | inl below ↦
            let one : get_or so_far.files row.submitter [] ≡ get_or files row.submitter [] = sym (get_or_append_left so_far.files (bytes ∷ []) [] row.submitter (omega (arith, below, so_far.all))) in
            let same = found.others k row d there (λ is. omega (arith, below, is)) in
            subst (λ (b : List ℕ). IsFiled (lines_of b) row.number.now (get_or new k d)) one
            (subst (λ (f : Found). IsFiled (lines_of (get_or so_far.files row.submitter [])) row.number.now f) (sym same) (so_far.shown k row d there below))
        | inr high ↦
            let here : row.submitter ≡ place = omega (arith, low, high) in
            let one : bytes ≡ get_or files row.submitter [] = sym (get_or_push so_far.files bytes [] row.submitter (so_far.all ∙ sym here)) in
            subst (λ (b : List ℕ). IsFiled (lines_of b) row.number.now (get_or new k d)) one (found.its k row d there here)
      ];
    }

-- the files that were looked at, as those that a registry is made of are
abbrev pub held_by : (holds : ℕ → List ℕ → Type 0) (count : ℕ) (rows : List WorksRow) (read : List InForce) (filed : List Found) → AreLookedAt holds count rows read filed → Held holds count read
held_by holds count rows read filed looked = record {
  files = looked.files;
  all = looked.all;
  each = λ place d low. let text = looked.each place d low in (text.held, text.sound, text.registrations);
}

-- the registration of each row is found by the name of its submitter
pub filed_by : (holds : ℕ → List ℕ → Type 0) (names : List (List ℕ)) (rows : List WorksRow) (read : List InForce) (filed : List Found)
    → AllPairs (λ name later. ¬ (name ≡ later)) names → All (IsKnownRow names) rows → (looked : AreLookedAt holds (length names) rows read filed)
    → AreFiledBy (λ row. file_by (files_by names looked.files) row.name.now) rows filed
filed_by holds names rows read filed once known looked = λ k row d there.
    let files = looked.files in
    let within = slice_get_within rows k row there in
    let (low, named) = subst (IsKnownRow names) (get_or_from_slice_get rows k row row there) (known k row within) in
    let here : get_or (map lines_of files) row.submitter (lines_of []) ≡ lines_of (get_or files row.submitter []) = get_or-map lines_of files row.submitter [] (lines_of []) (omega (arith, low, looked.all)) in
    let found : find_work row.name.now (files_by names files) ≡ Some (lines_of (get_or files row.submitter [])) =
    ap (λ (name : List ℕ). find_work name (files_by names files)) (sym named)
    ∙ (find_named names (map lines_of files) row.submitter (lines_of []) (length-map files lines_of ∙ looked.all) once low ∙ ap Some here) in
    subst (λ (file : List (List ℕ)). IsFiled file row.number.now (get_or filed k d)) (sym (ap (λ (o : Option (List (List ℕ))). unwrap_or o []) found)) (looked.shown k row d there low)
