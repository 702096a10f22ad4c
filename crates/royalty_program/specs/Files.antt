-- What a run answers over files. `holds path bytes` says that the file of a path has these bytes.
use Rattle.std.specs.Prelude.{ℕ, ◌≤◌, ◌≢◌, Bool, List, None, Option, Some, length, ⊤}
use Rattle.std.specs.declared.io.ErrorKind.{ErrorKind}
use Rattle.std.specs.declared.io.ErrorKind.TheVariants.{OutOfMemory}
use Rattle.check_inputs.specs.Checked.{IsReportOn}
use Rattle.explain_line.specs.Explanation.{HasNoRow, IsExplanationOf}
use Rattle.run_inputs.specs.Inputs.{HaveNoFault, IsFaultOf}
use Rattle.settle_run.specs.Settled.{AreStatementsOf}
use Rattle.run_inputs.specs.declared.fault.Fault.{Fault}
use Rattle.run_inputs.specs.declared.inputs.Inputs.{Inputs}

-- What a file of the system has no contract can say, but that it is no larger than the most bytes.
abbrev pub on_disk : List ℕ → List ℕ → Type 0
on_disk path bytes = length bytes ≤ 268435456

-- Nor why it is refused.
abbrev pub for_any_error : List ℕ → ErrorKind → Type 0
for_any_error path kind = ⊤

-- A file cannot be read, and that is no lack of memory. `refuses path kind` says that a path is refused with an error of this kind.
abbrev pub IsUnread : (refuses : List ℕ → ErrorKind → Type 0) → List ℕ → Type 0
IsUnread refuses path = (kind : ErrorKind) × refuses path kind × (kind ≢ OutOfMemory)

-- the file of a path has these bytes, where there is a path
abbrev pub HoldsIfGiven : (List ℕ → List ℕ → Type 0) → Option (List ℕ) → Option (List ℕ) → Type 0
HoldsIfGiven holds None None = ⊤
HoldsIfGiven holds (Some path) (Some bytes) = holds path bytes
HoldsIfGiven holds _ _ = ⊥

-- these are the bytes of the files of these paths
pub record AreRead (holds : List ℕ → List ℕ → Type 0) (paths files : Inputs (List ℕ)) : Type 0 where
  pub territories : holds paths.territories files.territories
  pub payees : HoldsIfGiven holds paths.payees files.payees
  pub registrations : holds paths.registrations files.registrations
  pub usage : holds paths.usage files.usage

-- the text is the statements of the files of these paths
pub record AreStatementsOver (holds : List ℕ → List ℕ → Type 0) (paths : Inputs (List ℕ)) (text : List ℕ) : Type 0 where
  pub files : Inputs (List ℕ)
  pub read : AreRead holds paths files
  pub statements : AreStatementsOf files text

-- none of the files has a fault
pub record HaveNoFaultOver (holds : List ℕ → List ℕ → Type 0) (paths : Inputs (List ℕ)) : Type 0 where
  pub files : Inputs (List ℕ)
  pub read : AreRead holds paths files
  pub sound : HaveNoFault files

-- the fault is the first of the first of the files that has one
pub record IsFaultOver (holds : List ℕ → List ℕ → Type 0) (paths : Inputs (List ℕ)) (fault : Fault) : Type 0 where
  pub files : Inputs (List ℕ)
  pub read : AreRead holds paths files
  pub fault_of : IsFaultOf files fault

-- the text explains the line in a row of the usage list, by the files of these paths
pub record IsExplanationOver (holds : List ℕ → List ℕ → Type 0) (paths : Inputs (List ℕ))
    (row : ℕ) (text : List ℕ) : Type 0 where
  pub files : Inputs (List ℕ)
  pub read : AreRead holds paths files
  pub explanation : IsExplanationOf files row text

-- the files of these paths are sound, and the usage list has no such row
pub record HasNoRowOver (holds : List ℕ → List ℕ → Type 0) (paths : Inputs (List ℕ)) (row : ℕ) : Type 0 where
  pub files : Inputs (List ℕ)
  pub read : AreRead holds paths files
  pub beyond : HasNoRow files row

-- the text is the report on the files of these paths, and tells whether they are sound
pub record IsReportOver (holds : List ℕ → List ℕ → Type 0) (paths : Inputs (List ℕ))
    (sound : Bool) (text : List ℕ) : Type 0 where
  pub files : Inputs (List ℕ)
  pub read : AreRead holds paths files
  pub report : IsReportOn paths files text sound
