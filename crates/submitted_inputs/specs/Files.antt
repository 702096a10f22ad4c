-- The CWR files of submitters, by the places of these among the names. `holds place bytes` says that the file of a
-- place holds these bytes, and `refuses place` that it cannot be read.
use Rattle.std.specs.Prelude.{ℕ, ◌≡◌, ◌<◌, List, length, slice_index_or}
use Rattle.csv_table.specs.FirstFault.{IsFirstFault}
use Rattle.cwr_share.specs.CwrFile.{AreSound, IsFaultOfLine}
use Rattle.cwr_share.specs.InForce.{HasInForce}
use Rattle.cwr_share.specs.Lines.{lines_of}
use Rattle.cwr_share.specs.declared.in_force.InForce.{InForce}
use Rattle.submitted_inputs.specs.declared.fault.SubmittedFault.{SubmittedFault}
use Rattle.submitted_inputs.specs.declared.fault.SubmittedFault.TheVariants.{Unreadable, Cwr}

-- the file of a place holds these bytes, which are sound lines, after which these works are in force
pub record IsTextRead (holds : ℕ → List ℕ → Type 0) (place : ℕ) (bytes : List ℕ) (in_force : InForce) : Type 0 where
  pub held : holds place bytes
  pub sound : AreSound (lines_of bytes)
  pub registrations : HasInForce (lines_of bytes) in_force

-- the file of a place holds sound lines, after which these works are in force
pub record IsFileRead (holds : ℕ → List ℕ → Type 0) (place : ℕ) (in_force : InForce) : Type 0 where
  pub bytes : List ℕ
  pub held : holds place bytes
  pub sound : AreSound (lines_of bytes)
  pub registrations : HasInForce (lines_of bytes) in_force

-- so does each of the first `count` files
pub record AreFilesRead (holds : ℕ → List ℕ → Type 0) (count : ℕ) (read : List InForce) : Type 0 where
  pub all : length read ≡ count
  pub each : (place : ℕ) (d : InForce) → place < count → IsFileRead holds place (slice_index_or read place d)

-- what the file of a place is refused for: it cannot be read, or its first line that is not sound
abbrev pub IsFaultOfFile : (holds : ℕ → List ℕ → Type 0) → (refuses : ℕ → Type 0) → (place : ℕ) → SubmittedFault
    → Type 0
IsFaultOfFile holds refuses place (Unreadable at) = (at ≡ place) × refuses place
IsFaultOfFile holds refuses place (Cwr at fault) =
    (at ≡ place) × (bytes : List ℕ) × holds place bytes × IsFirstFault AreSound IsFaultOfLine (lines_of bytes) fault
IsFaultOfFile holds refuses place _ = ⊥

-- a file holds sound lines
abbrev pub IsSoundFile : (holds : List ℕ → Type 0) → Type 0
IsSoundFile holds = (bytes : List ℕ) × holds bytes × AreSound (lines_of bytes)

-- what the first `count` files are refused for: the first of them that is refused
pub record IsFaultOfFiles (holds : ℕ → List ℕ → Type 0) (refuses : ℕ → Type 0) (count : ℕ) (fault : SubmittedFault)
    : Type 0 where
  pub place : ℕ
  pub within : place < count
  pub before : (k : ℕ) → k < place → IsSoundFile (holds k)
  pub refused : IsFaultOfFile holds refuses place fault
