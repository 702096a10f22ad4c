-- What an adjustment answers over files, and what it fails for. `gives path text` says that the file of a path gives
-- this text.
use Rattle.std.specs.Prelude.{ℕ, ◌≡◌, ◌≢◌, ◌⊎◌, ◌∷◌, [], List, Option, IfSome, string_bytes, ⊤}
use Rattle.adjust_statements.specs.Adjusted.{IsAdjustmentOf}
use Rattle.adjust_statements.specs.Refused.{HaveOtherLines}
use Rattle.royalty_program.specs.MergeFiles.{BeginWithTooManyPortions, Gives, GivesFault, IsSoundText}
use Rattle.royalty_program.specs.Status.{IsOfText}
use Rattle.royalty_program.specs.declared.failure.Failure.{Failure}
use Rattle.royalty_program.specs.declared.failure.Failure.TheVariants.{Changed, File, ManyMerged, OtherLines, Room}

-- the text is that of the differences between what two files give
pub record IsAdjustmentOver (gives : List ℕ → List ℕ → Type 0) (paid right text : List ℕ) : Type 0 where
  pub paid_text : List ℕ
  pub right_text : List ℕ
  pub paid_is : gives paid paid_text
  pub right_is : gives right right_text
  pub adjustment : IsAdjustmentOf paid_text right_text text

-- the file of an output is neither of the two
abbrev pub IsNeither : (paid right path : List ℕ) → Type 0
IsNeither paid right path = (path ≢ paid) × (path ≢ right)

-- they give texts of statements, of as many usage lines
abbrev pub AreAlike : (gives : List ℕ → List ℕ → Type 0) → (paid right : List ℕ) → Type 0
AreAlike gives paid right = (lines : ℕ) × IsSoundText gives paid lines × IsSoundText gives right lines

-- they give texts of statements of other numbers of usage lines, and that of the second has so many rows
pub record GiveOtherLines (gives : List ℕ → List ℕ → Type 0) (paid right : List ℕ) (row : ℕ) : Type 0 where
  pub paid_known : Option (List ℕ)
  pub right_known : Option (List ℕ)
  pub paid_given : Gives (gives paid) paid_known
  pub right_given : Gives (gives right) right_known
  pub other : IfSome paid_known (λ before. IfSome right_known (λ after. HaveOtherLines before after row))

-- the path is one of the two
abbrev pub IsOneOfBoth : (paid right path : List ℕ) → Type 0
IsOneOfBoth paid right path = (path ≡ paid) ⊎ (path ≡ right)

-- its text has a fault, or the two are of other numbers of usage lines
abbrev pub IsNotAsBefore : (gives : List ℕ → List ℕ → Type 0) → (paid right path : List ℕ) → Type 0
IsNotAsBefore gives paid right path =
    IsOneOfBoth paid right path × (GivesFault (gives path) ⊎ ((row : ℕ) × GiveOtherLines gives paid right row))

-- What an adjustment fails for as it reads both texts side by side: for lack of memory, since they have too many
-- portions, for one that cannot be read, or for one that is no text of statements of as many usage lines as the other.
abbrev pub IsOfReading : (gives : List ℕ → List ℕ → Type 0) → (paid right : List ℕ) → Failure → Type 0
IsOfReading gives paid right Room = ⊤
IsOfReading gives paid right ManyMerged = BeginWithTooManyPortions gives (paid ∷ right ∷ [])
IsOfReading gives paid right (File path) = IsOneOfBoth paid right (string_bytes path)
IsOfReading gives paid right (Changed path) = IsNotAsBefore gives paid right (string_bytes path)
IsOfReading gives paid right _ = ⊥

-- what it fails for that is not one text's own: both were read through, and are of other numbers of usage lines; or
-- they were alike, and then had too many portions, or one had changed
abbrev pub IsOfTwo : (gives : List ℕ → List ℕ → Type 0) → (paid right : List ℕ) → Failure → Type 0
IsOfTwo gives paid right (OtherLines row path) = (string_bytes path ≡ right) × GiveOtherLines gives paid right row
IsOfTwo gives paid right ManyMerged = AreAlike gives paid right × BeginWithTooManyPortions gives (paid ∷ right ∷ [])
IsOfTwo gives paid right (Changed path) =
    AreAlike gives paid right × IsNotAsBefore gives paid right (string_bytes path)
IsOfTwo gives paid right _ = ⊥

-- An adjustment of the texts of these paths fails for the first fault of what was paid; or, where that is a text of
-- statements, for that of what is right; or for both.
abbrev pub IsOfBoth : (gives : List ℕ → List ℕ → Type 0) → (paid right : List ℕ) → Failure → Type 0
IsOfBoth gives paid right failure =
    IsOfText gives paid failure
    ⊎ (((lines : ℕ) × IsSoundText gives paid lines) × IsOfText gives right failure)
    ⊎ IsOfTwo gives paid right failure

-- lack of memory, or this text is said to have changed
abbrev pub IsSaidChanged : (path : List ℕ) → Failure → Type 0
IsSaidChanged path Room = ⊤
IsSaidChanged path (Changed name) = string_bytes name ≡ path
IsSaidChanged path _ = ⊥

-- or it is said to be of another number of usage lines, in this row
abbrev pub IsSaidOther : (row : ℕ) → (path : List ℕ) → Failure → Type 0
IsSaidOther row path Room = ⊤
IsSaidOther row path (OtherLines at name) = (at ≡ row) × (string_bytes name ≡ path)
IsSaidOther row path _ = ⊥
