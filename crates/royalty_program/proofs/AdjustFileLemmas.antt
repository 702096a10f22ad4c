-- Two texts of statements over files.
use Rattle.std.proofs.Common.{inl, inr, ◌⊎◌, ◌≡◌, ◌∙◌, ◌<◌, ◌∷◌, ℕ, List, [], None, Option, Some, arith, refl, subst, suc, sym, zero}
use Rattle.std.specs.Option.{IfSome}
use Rattle.std.specs.List.{Contains}
use Rattle.std.specs.Io.KnownBytes.{Appends}
use Rattle.std.specs.Prelude.{String, string_bytes}
use Rattle.std.specs.declared.alloc.Global.{Global}
use Rattle.adjust_statements.specs.Adjusted.{WritesAdjustment}
use Rattle.adjust_statements.specs.Refused.{HaveOtherLines, IsRefusalOfBoth}
use Rattle.merge_statements.specs.Refused.{IsTextOfRows}
use Rattle.merge_statements.specs.declared.refusal.Refusal.{Refusal}
use Rattle.royalty_program.specs.AdjustFiles.{AreAlike, GiveOtherLines, IsAdjustmentOver, IsNotAsBefore, IsOfBoth, IsOfReading, IsOneOfBoth}
use Rattle.royalty_program.specs.AdjustFiles.{IsSaidChanged, IsSaidOther}
use Rattle.royalty_program.specs.MergeFiles.{Gives, IsCountedText, IsSoundText}
use Rattle.royalty_program.specs.Status.{IsOfPlace, IsOfRunOutput, IsOfText, IsUnopened}
use Rattle.royalty_program.specs.declared.failure.Failure.{Failure}
use Rattle.royalty_program.specs.declared.failure.Failure.TheVariants.{Changed, File, ManyMerged, OtherLines, Replaces, Room, Target}
use Rattle.royalty_program.proofs.MergeFileLemmas.{fault_over, sound_text, too_many_portions_over}

-- a path among two is one of both
one_of_both : (paid right path : List ℕ) → Contains (paid ∷ right ∷ []) path → IsOneOfBoth paid right path
one_of_both paid right path (zero, inside, is) = inl (sym is)
one_of_both paid right path (suc zero, inside, is) = inr (sym is)
one_of_both paid right path (suc (suc place), inside, is) = absurd (omega (arith, inside))

-- texts of other numbers of usage lines
lines_apart : (before after : Option (List ℕ)) (lines rows others row : ℕ) → IfSome before (λ text. IsTextOfRows text lines rows) → IfSome after (λ text. IsTextOfRows text others row) → ¬ (lines ≡ others)
    → IfSome before (λ paid. IfSome after (λ right. HaveOtherLines paid right row))
lines_apart None after lines rows others row paid right apart = tt
lines_apart (Some before) None lines rows others row paid right apart = tt
lines_apart (Some before) (Some after) lines rows others row paid right apart = record {
  paid_lines = lines;
  right_lines = others;
  of_paid = paid.is;
  of_right = right.is;
  last = right.counted;
  apart = apart;
}

module _ (gives : List ℕ → List ℕ → Type 0) (paid right : List ℕ) where
  -- what two readers have left is what their files give
  pub adjusted_over : (before after : Option (List ℕ)) (old new : Option (List ℕ)) → Gives (gives paid) before → Gives (gives right) after → WritesAdjustment before after old new
      → (text : List ℕ) × Appends old new text × IsAdjustmentOver gives paid right text
  adjusted_over before after old new given_paid given_right writes = (
    writes.text,
    writes.written,
    record {
      paid_text = writes.paid_text;
      right_text = writes.right_text;
      paid_is = given_paid writes.paid_text writes.paid_is;
      right_is = given_right writes.right_text writes.right_is;
      adjustment = writes.adjustment;
    },
  )

  -- the one of the two in a place that is refused, or both
  pub of_place : (before after : Option (List ℕ)) (place : ℕ) (was : Refusal) (failure : Failure) → Gives (gives paid) before → Gives (gives right) after
      → IsRefusalOfBoth (before ∷ after ∷ []) place was → IsOfPlace (paid ∷ right ∷ []) place was failure → IsOfReading gives paid right failure
  of_place before after place was Room given_paid given_right refused is = tt
  of_place before after place was ManyMerged given_paid given_right refused is =
      too_many_portions_over gives (paid ∷ right ∷ []) (before ∷ after ∷ []) (given_paid, (given_right, tt)) (subst (IsRefusalOfBoth (before ∷ after ∷ []) place) is refused)
  of_place before after place was (File name) given_paid given_right refused is = one_of_both paid right (string_bytes name) (place, is.0.0, is.0.1)
  of_place before after place was (Changed name) given_paid given_right refused is = (
    one_of_both paid right (string_bytes name) (place, is.0.0, is.0.1),
    inl (fault_over gives (paid ∷ right ∷ []) (before ∷ after ∷ []) place (string_bytes name) is.1.0 (given_paid, (given_right, tt)) is.0
        (subst (IsRefusalOfBoth (before ∷ after ∷ []) place) is.1.1 refused).1),
  )
  of_place before after place was failure given_paid given_right refused is = absurd is

  -- a path that cannot be opened
  pub unopened_paid : (failure : Failure) → IsUnopened paid failure → IsOfReading gives paid right failure
  unopened_paid Room is = tt
  unopened_paid (File name) is = inl is
  unopened_paid failure is = absurd is

  pub unopened_right : (failure : Failure) → IsUnopened right failure → IsOfReading gives paid right failure
  unopened_right Room is = tt
  unopened_right (File name) is = inr is
  unopened_right failure is = absurd is

  -- the second is of another number of usage lines than before
  pub of_lines : (before after : Option (List ℕ)) (row : ℕ) (failure : Failure) → Gives (gives paid) before → Gives (gives right) after
      → IfSome before (λ b. IfSome after (λ a. HaveOtherLines b a row)) → IsSaidChanged right failure → IsOfReading gives paid right failure
  of_lines before after row Room given_paid given_right other is = tt
  of_lines before after row (Changed name) given_paid given_right other is =
      (inr is, inr (row, record { paid_known = before; right_known = after; paid_given = given_paid; right_given = given_right; other = other }))
  of_lines before after row failure given_paid given_right other is = absurd is

  -- both were read through: they are alike, or of other numbers of usage lines
  pub alike : (lines rows others row : ℕ) → IsCountedText gives paid lines rows → IsCountedText gives right others row → lines ≡ others → AreAlike gives paid right
  alike lines rows others row before after same =
      (lines, sound_text gives paid lines rows before, subst (IsSoundText gives right) (sym same) (sound_text gives right others row after))

  pub other_lines : (lines rows others row : ℕ) (failure : Failure) → IsCountedText gives paid lines rows → IsCountedText gives right others row → ¬ (lines ≡ others) → IsSaidOther row right failure
      → IsOfBoth gives paid right failure
  other_lines lines rows others row Room before after apart is = inl tt
  other_lines lines rows others row (OtherLines at name) before after apart is = inr (inr (
    is.1,
    subst (GiveOtherLines gives paid right) (sym is.0)
        (record {
          paid_known = before.known;
          right_known = after.known;
          paid_given = before.given;
          right_given = after.given;
          other = lines_apart before.known after.known lines rows others row before.holds_of after.holds_of apart;
        }),
  ))
  other_lines lines rows others row failure before after apart is = absurd is

  -- that an output would replace an input is no failure of the two
  pub no_replaces : (at : String Global) → ¬ IsOfBoth gives paid right (Replaces at)
  no_replaces at (inl none) = none
  no_replaces at (inr (inl none)) = none.1
  no_replaces at (inr (inr none)) = none

  -- nor that it cannot be written, so both fail alike without one
  no_target : (at : String Global) → ¬ IsOfBoth gives paid right (Target at)
  no_target at (inl none) = none
  no_target at (inr (inl none)) = none.1
  no_target at (inr (inr none)) = none

  pub of_no_output : (output : Option (String Global)) (failure : Failure) → IsOfBoth gives paid right failure → IsOfRunOutput output (IsOfBoth gives paid right) failure
  of_no_output output (Target at) is = absurd (no_target at is)
  of_no_output output (Replaces at) is = absurd (no_replaces at is)
  of_no_output output failure is = is

  -- after both were read through, one of them fails
  pub both_of_reading : (failure : Failure) → AreAlike gives paid right → IsOfReading gives paid right failure → IsOfBoth gives paid right failure
  both_of_reading Room are is = inl tt
  both_of_reading ManyMerged are is = inr (inr (are, is))
  both_of_reading (Changed name) are is = inr (inr (are, is))
  both_of_reading (File name) are (inl is) = inl is
  both_of_reading (File name) are (inr is) = inr (inl ((are.0, are.1), is))
  both_of_reading failure are is = absurd is
