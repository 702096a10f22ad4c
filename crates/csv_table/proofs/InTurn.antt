-- Rows, or lines, each of which is as it has to be behind those before it.
use Rattle.std.proofs.Common.{◌≡◌, ◌<◌, All, List, [], ◌∷◌, ◌++◌, length, inl, inr, arith, length-append, refl, subst}
use Rattle.std.proofs.Math.Seq.{get_or-append_seam, take-append_seam}
use Rattle.std.proofs.lemmas.Bool.{cases_lt}
use Rattle.std.proofs.lemmas.List.Elements.{All-from_get_or}
use Rattle.std.proofs.lemmas.List.{get_or_append_left, get_or_push, length_push, take-append-le}
use Rattle.csv_table.specs.FirstFault.{AreInTurn}

module _ {X : Type 0} (IsSound : List (List X) → List X → Type 0) where
  -- one of them is, behind those before it
  pub sound_at : (rows before : List (List X)) (row : List X) (after : List (List X)) → rows ≡ before ++ row ∷ after → AreInTurn IsSound rows → IsSound before row
  sound_at rows before row after split sound =
      let within : length before < length (before ++ row ∷ after) = omega (arith, length-append before (row ∷ after)) in
      let here = subst (AreInTurn IsSound) split sound (length before) within in
      rw (take-append_seam before (row ∷ after), get_or-append_seam before row after []) at here

  -- none are
  pub sound_none : AreInTurn IsSound []
  sound_none place within = absurd (omega arith)

  -- and one more behind them
  pub sound_push : (rows : List (List X)) (row : List X) → AreInTurn IsSound rows → IsSound rows row → AreInTurn IsSound (rows ++ row ∷ [])
  sound_push rows row sound good = λ place within. elim (cases_lt place (length rows)) [
    | inl before ↦ rw (take-append-le place rows (row ∷ []) (omega arith), get_or_append_left rows (row ∷ []) [] place before) (sound place before)
    | inr past ↦
        let last : place ≡ length rows = omega (arith, past, within, length_push rows row) in
        rw (last, take-append_seam rows (row ∷ []), get_or_push rows row [] (length rows) refl) good
  ]

-- where what stands before makes no difference, each of them is sound, and that is enough
module _ {X : Type 0} (IsGood : List X → Type 0) where
  pub each_sound : (rows : List (List X)) → AreInTurn (λ before. IsGood) rows → All IsGood rows
  each_sound rows sound = All-from_get_or IsGood rows [] sound

  pub all_sound : (rows : List (List X)) → All IsGood rows → AreInTurn (λ before. IsGood) rows
  all_sound rows all place within = all place [] within
