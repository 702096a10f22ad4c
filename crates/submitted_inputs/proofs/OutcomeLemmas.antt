-- What became of files, where each was read or refused.
use Rattle.std.proofs.Common.{◌≡◌, ◌∙◌, ◌+◌, ◌<◌, ◌⊎◌, ◌∷◌, ◌++◌, [], ℕ, List, Option, Some, Err, Result, add-zero, ap, arith, get_or, inl, inr, length, length-append, map, subst, sym}
use Rattle.std.proofs.lemmas.List.{get_or-map, get_or_append_left, length-map}
use Rattle.std.proofs.Math.Seq.{get_or-append-add}
use Rattle.cwr_share.specs.declared.in_force.InForce.{InForce}
use Rattle.submitted_inputs.specs.Files.{AreFilesRead, IsFaultOfFile, IsFaultOfFiles, IsSoundFile}
use Rattle.submitted_inputs.specs.Outcomes.{AreOutcomes, IsFirstRefused, IsOutcomeOf, read_as}
use Rattle.submitted_inputs.specs.declared.fault.SubmittedFault.{SubmittedFault}
use Rattle.submitted_inputs.specs.declared.fault.SubmittedFault.TheVariants.{Room}

abbrev Outcome : Type 0
Outcome = Option (Result InForce SubmittedFault)

module _ (holds : ℕ → List ℕ → Type 0) (refuses : ℕ → Type 0) (outcomes : List Outcome)
    (are : AreOutcomes holds refuses outcomes) where
  pub all_read : (read : List InForce) → outcomes ≡ map read_as read → AreFilesRead holds (length outcomes) read
  all_read read is =
      let count : length read ≡ length outcomes = sym (length-map read read_as) ∙ sym (ap (λ (l : List Outcome). length l) is) in
      record {
        all = count;
        each = λ place d within.
            let inside : place < length read = omega (arith, within, count) in
            let at : get_or outcomes place (read_as d) ≡ read_as (get_or read place d) =
            ap (λ (l : List Outcome). get_or l place (read_as d)) is ∙ get_or-map read_as read place d (read_as d) inside in
            subst (IsOutcomeOf holds refuses place) at (are place (read_as d) within);
      }

  pub first_refused : (fault : SubmittedFault) → IsFirstRefused outcomes fault → (fault ≡ Room) ⊎ IsFaultOfFiles holds refuses (length outcomes) fault
  first_refused fault first =
      let read = first.read in
      let refused : Outcome = Some (Err fault) in
      let count : length outcomes ≡ length read + length (refused ∷ first.later) =
      ap (λ (l : List Outcome). length l) first.split ∙ (length-append (map read_as read) (refused ∷ first.later) ∙ ap (λ n. n + length (refused ∷ first.later)) (length-map read read_as)) in
      let within : length read < length outcomes = omega (arith, count) in
      let at : get_or outcomes (length read) refused ≡ refused =
      ap (λ (l : List Outcome). get_or l (length read) refused) first.split
      ∙ (ap (λ n. get_or (map read_as read ++ refused ∷ first.later) n refused) (sym (add-zero (length read)) ∙ ap (λ n. n + 0) (sym (length-map read read_as)))
      ∙ get_or-append-add (map read_as read) (refused ∷ first.later) 0 refused) in
      by (subst (IsOutcomeOf holds refuses (length read)) at (are (length read) refused within))
    where
      none : InForce
      none = []

      before : (k : ℕ) → k < length first.read → IsSoundFile (holds k)
      before k low =
          let refused : Outcome = Some (Err fault) in
          let inside : k < length (map read_as first.read) = omega (arith, low, length-map first.read read_as) in
          let within : k < length outcomes =
          omega (arith, inside, ap (λ (l : List Outcome). length l) first.split, length-append (map read_as first.read) (refused ∷ first.later)) in
          let at : get_or outcomes k (read_as none) ≡ read_as (get_or first.read k none) =
          ap (λ (l : List Outcome). get_or l k (read_as none)) first.split
          ∙ (get_or_append_left (map read_as first.read) (refused ∷ first.later) (read_as none) k inside ∙ get_or-map read_as first.read k none (read_as none) low) in
          let file = subst (IsOutcomeOf holds refuses k) at (are k (read_as none) within) in
          (file.bytes, file.held, file.sound)

      by : (fault ≡ Room) ⊎ IsFaultOfFile holds refuses (length first.read) fault → (fault ≡ Room) ⊎ IsFaultOfFiles holds refuses (length outcomes) fault
      by (inl room) = inl room
      by (inr own) = inr (record {
        place = length first.read;
        within = omega (
          arith,
          ap (λ (l : List Outcome). length l) first.split,
          length-append (map read_as first.read) (Some (Err fault) ∷ first.later),
          length-map first.read read_as,
        );
        before = before;
        refused = own;
      })
