-- What became of files, as they are read side by side.
use Rattle.std.specs.Prelude.{ℕ, ◌≡◌, ◌<◌, ◌⊎◌, ◌++◌, ◌∷◌, List, Option, None, Some, Result, Ok, Err, length, map, slice_index_or}
use Rattle.cwr_share.specs.declared.in_force.InForce.{InForce}
use Rattle.submitted_inputs.specs.Files.{IsFaultOfFile, IsFileRead}
use Rattle.submitted_inputs.specs.declared.fault.SubmittedFault.{SubmittedFault}
use Rattle.submitted_inputs.specs.declared.fault.SubmittedFault.TheVariants.{Room}

-- the file of a place was read, or is refused for this
abbrev pub IsOutcomeOf : (holds : ℕ → List ℕ → Type 0) → (refuses : ℕ → Type 0) → (place : ℕ)
    → Option (Result InForce SubmittedFault) → Type 0
IsOutcomeOf holds refuses place None = ⊥
IsOutcomeOf holds refuses place (Some (Ok in_force)) = IsFileRead holds place in_force
IsOutcomeOf holds refuses place (Some (Err fault)) = (fault ≡ Room) ⊎ IsFaultOfFile holds refuses place fault

-- so is each
abbrev pub AreOutcomes : (holds : ℕ → List ℕ → Type 0) → (refuses : ℕ → Type 0)
    → List (Option (Result InForce SubmittedFault)) → Type 0
AreOutcomes holds refuses outcomes = (place : ℕ) (d : Option (Result InForce SubmittedFault))
    → place < length outcomes → IsOutcomeOf holds refuses place (slice_index_or outcomes place d)

-- a file was read
abbrev pub read_as : InForce → Option (Result InForce SubmittedFault)
read_as in_force = Some (Ok in_force)

-- those before one were read, and this one is refused
pub record IsFirstRefused (outcomes : List (Option (Result InForce SubmittedFault))) (fault : SubmittedFault)
    : Type 0 where
  pub read : List InForce
  pub later : List (Option (Result InForce SubmittedFault))
  pub split : outcomes ≡ map read_as read ++ Some (Err fault) ∷ later
