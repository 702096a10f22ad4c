-- What a report on the inputs of a run over the files of several submitters has to be, and when there is none.
use Rattle.std.specs.Prelude.{ℕ, ◌≡◌, ◌<◌, Bool, List}
use Rattle.submitted_inputs.specs.declared.fault.SubmittedFault.{SubmittedFault}
use Rattle.submitted_inputs.specs.declared.fault.SubmittedFault.TheVariants.{Unreadable}
use Rattle.submitted_inputs.specs.declared.inputs.SubmittedTables.{SubmittedTables}
use Rattle.check_inputs.specs.SubmittedFound.{IsFoundIn, SubmittedFound, is_sound}
use Rattle.check_inputs.specs.SubmittedReport.{report_of}

-- The text is the report, and `sound` says whether no input has a fault. The submitters have these names, and their
-- files these paths.
pub record IsSubmittedReportOn (names file_paths : List (List ℕ)) (holds : ℕ → List ℕ → Type 0)
    (paths tables : SubmittedTables (List ℕ)) (text : List ℕ) (sound : Bool) : Type 0 where
  pub found : SubmittedFound
  pub inputs : IsFoundIn names file_paths holds tables found
  pub written : text ≡ report_of names paths tables found
  pub told : sound ≡ is_sound found

-- the file at this place cannot be read, and those before it can; there are so many files
abbrev pub IsFirstUnread : (holds : ℕ → List ℕ → Type 0) → (refuses : ℕ → Type 0) → (count : ℕ) → SubmittedFault
    → Type 0
IsFirstUnread holds refuses count (Unreadable place) =
    (place < count) × refuses place × ((earlier : ℕ) → earlier < place → (bytes : List ℕ) × holds earlier bytes)
IsFirstUnread holds refuses count _ = ⊥
