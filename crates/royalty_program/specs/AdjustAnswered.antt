-- What the words of an adjustment fail for.
use Rattle.std.specs.Prelude.{ℕ, ◌≡◌, List, Some, codes, string_bytes}
use Rattle.royalty_program.specs.AdjustCommand.{adjust_app}
use Rattle.royalty_program.specs.AdjustFiles.{IsOfBoth}
use Rattle.royalty_program.specs.Asked.{AreAccepted, adjust_output, paid_given, right_given}
use Rattle.royalty_program.specs.declared.failure.Failure.{Failure}
use Rattle.royalty_program.specs.declared.failure.Failure.TheVariants.{Replaces, Target, Words}

-- for both texts, for the file of their output, which is one of the two or cannot be written, or for themselves where
-- clap does not accept them
abbrev pub IsOfAdjustment : (gives : List ℕ → List ℕ → Type 0) → List (List ℕ) → Failure → Type 0
IsOfAdjustment gives words (Words error) = ¬ AreAccepted adjust_app words
IsOfAdjustment gives words (Target path) = adjust_output words ≡ Some (string_bytes path)
IsOfAdjustment gives words (Replaces path) = adjust_output words ≡ Some (string_bytes path)
IsOfAdjustment gives words failure = IsOfBoth gives (paid_given words) (right_given words) failure
