-- A CWR file that is read on past the lines that are refused.
use Rattle.std.specs.Prelude.{ℕ, ◌≡◌, ◌<◌, ◌+◌, ◌^◌, ◌∷◌, ◌++◌, List, [], length, Some}
use Rattle.csv_table.specs.ReadOn.{ReadsOn}
use Rattle.cwr_share.specs.CwrFile.{HasTooMany, IsFaultOfLine, IsFileOf, IsSound, place_of_fault}
use Rattle.cwr_share.specs.Reading.{IsReadTo}
use Rattle.cwr_share.specs.Registered.{Registered}
use Rattle.cwr_share.specs.declared.cwr_fault.CwrFault.{CwrFault}
use Rattle.cwr_share.specs.declared.cwr_fault.CwrFault.TheVariants.{Accounts}
use Rattle.cwr_share.specs.declared.cwr_reader.CwrReader.{CwrReader}

-- a reader has read lines, fewer than it has counted
pub record Stands (reader : CwrReader) : Type 0 where
  pub countable : reader.number + length reader.lines < 2 ^ 64
  pub lines : List (List ℕ)
  pub read : IsReadTo lines reader.reading
  pub fewer : length lines < reader.number

-- a line is read after others
abbrev pub Reads : List (List ℕ) → List ℕ → List (List ℕ) → Type 0
Reads lines line next = IsSound lines line × (next ≡ lines ++ line ∷ [])

-- a line is left out
abbrev pub Refuses : List (List ℕ) → ℕ → List ℕ → CwrFault → Type 0
Refuses lines number line fault = IsFaultOfLine lines number line fault × (place_of_fault fault ≡ Some number)

-- no line ends reading
abbrev pub Stops : List (List ℕ) → List ℕ → CwrFault → Type 0
Stops lines line fault = ⊥

-- after the lines that were read, from one place to another these are left out
abbrev pub HasReadOn : CwrReader → List (List ℕ × CwrFault) → CwrReader → Type 0
HasReadOn from out to = (lines : List (List ℕ)) → IsReadTo lines from.reading
    → (more : List (List ℕ)) × IsReadTo more to.reading × ReadsOn Reads Refuses Stops lines from.number from.lines out more to.number to.lines

-- The lines that are left out of a file, each with what it is refused for, and the registrations of those that are read. Lines count from 1. That there are too many payees is a fault of no line.
pub record IsReadWithout (rows : List (List ℕ × List ℕ)) (lines : List (List ℕ)) (out : List (List ℕ × CwrFault)) (registered : Registered) : Type 0 where
  pub kept : List (List ℕ)
  pub end : ℕ
  pub read : ReadsOn Reads Refuses Stops [] 1 lines out kept end []
  pub file : IsFileOf rows kept registered

-- the same where the lines that are read have too many payees
pub record HasTooManyWithout (rows : List (List ℕ × List ℕ)) (lines : List (List ℕ)) (out : List (List ℕ × CwrFault)) : Type 0 where
  pub kept : List (List ℕ)
  pub end : ℕ
  pub faults : List (List ℕ × CwrFault)
  pub read : ReadsOn Reads Refuses Stops [] 1 lines faults kept end []
  pub many : HasTooMany rows kept
  pub last : out ≡ faults ++ ([], Accounts) ∷ []
