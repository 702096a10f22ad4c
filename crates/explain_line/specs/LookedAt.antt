-- What is found in the files of submitters for the rows of a work, as they are read one after another. Contracts of private
-- functions alone cite it.
use Rattle.std.specs.Prelude.{ℕ, ◌≡◌, ◌≤◌, ◌<◌, ◌⊎◌, ◌-◌, List, Option, Some, Result, Ok, Err, [], length, map, slice_get, slice_index_or, zip}
use Rattle.csv_table.specs.Written.{text_of}
use Rattle.cwr_share.specs.Filed.{IsFiled}
use Rattle.cwr_share.specs.Lines.{lines_of}
use Rattle.cwr_share.specs.Registered.{Registered}
use Rattle.cwr_share.specs.Registrations.{ShareLine, find_work}
use Rattle.cwr_share.specs.declared.TheConstants.{MOST_SHARE_LINES}
use Rattle.cwr_share.specs.declared.filed.FiledRegistration.{FiledRegistration}
use Rattle.cwr_share.specs.declared.in_force.InForce.{InForce}
use Rattle.line_split.specs.UsageLine.{UsageLine}
use Rattle.line_split.specs.declared.line_fault.LineFault.{LineFault}
use Rattle.linked_works.specs.Linked.{Link, finds_in, shares_linked}
use Rattle.linked_works.specs.Rows.{link_shown}
use Rattle.linked_works.specs.declared.works.WorksRow.{WorksRow}
use Rattle.submitted_inputs.specs.Files.{IsTextRead}
use Rattle.submitted_inputs.specs.Faults.{fault_of_usage}
use Rattle.submitted_inputs.specs.Submitted.{AreFiles, AreRegistrations, IsFaultOfRegistrations, finds_by}
use Rattle.submitted_inputs.specs.declared.fault.SubmittedFault.{SubmittedFault}
use Rattle.submitted_inputs.specs.declared.fault.SubmittedFault.TheVariants.{Room}
use Rattle.explain_line.specs.Explanation.{IsRow}
use Rattle.explain_line.specs.Submitted.{file_by, links_of, submitted_rows}
use Rattle.explain_line.specs.declared.submitted_files.Found.{Found}

-- a registration in force for each row, or that there is none, by a file for each
abbrev pub AreFiledBy : (file_of : WorksRow → List (List ℕ)) → (rows : List WorksRow) → (filed : List (Option FiledRegistration)) → Type 0
AreFiledBy file_of rows filed = (k : ℕ) (row : WorksRow) (d : Option FiledRegistration)
    → slice_get rows k ≡ Some row → IsFiled (file_of row) row.number.now (slice_index_or filed k d)

-- What was found for rows when the file of a place was looked at too: of that file what it has, and else what was found before.
pub record IsFoundWith (place : ℕ) (lines : List (List ℕ)) (rows : List WorksRow) (old new : List (Option FiledRegistration)) : Type 0 where
  pub all : length new ≡ length old
  pub its : (k : ℕ) (row : WorksRow) (d : Option FiledRegistration) → slice_get rows k ≡ Some row → row.submitter ≡ place
      → IsFiled lines row.number.now (slice_index_or new k d)
  pub others : (k : ℕ) (row : WorksRow) (d : Option FiledRegistration) → slice_get rows k ≡ Some row → ¬ (row.submitter ≡ place)
      → slice_index_or new k d ≡ slice_index_or old k d

-- So many files were read, each with its works in force; and of each row whose file is among them its registration is found.
pub record AreLookedAt (holds : ℕ → List ℕ → Type 0) (count : ℕ) (rows : List WorksRow) (read : List InForce) (filed : List (Option FiledRegistration)) : Type 0 where
  pub files : List (List ℕ)
  pub all : length files ≡ count
  pub whole : length read ≡ count
  pub each : (place : ℕ) (d : InForce) → place < count
      → IsTextRead holds place (slice_index_or files place []) (slice_index_or read place d)
  pub room : length filed ≡ length rows
  pub shown : (k : ℕ) (row : WorksRow) (d : Option FiledRegistration) → slice_get rows k ≡ Some row → row.submitter < count
      → IsFiled (lines_of (slice_index_or files row.submitter [])) row.number.now (slice_index_or filed k d)

-- the files as they are looked up
abbrev pub files_by : (names files : List (List ℕ)) → List (List ℕ × List (List ℕ))
files_by names files = zip names (map lines_of files)

-- What the rows of a work are explained by.
pub record IsFoundFor (files : List (List ℕ × List (List ℕ))) (links : List Link) (rows : List WorksRow) (found : Found) : Type 0 where
  pub filed : AreFiledBy (λ row. file_by files row.name.now) rows found.filed.items
  pub all : length found.filed.items ≡ length rows
  pub linked : (work : List ℕ) → find_work work found.linked ≡ shares_linked (finds_in files) links work
  pub few : (work : List ℕ) (shares : List ShareLine) → find_work work found.linked ≡ Some shares → length shares ≤ MOST_SHARE_LINES

-- and where it was found
pub record IsFoundIn (names : List (List ℕ)) (holds : ℕ → List ℕ → Type 0) (payees : List (List ℕ × List ℕ)) (links : List Link) (rows : List WorksRow) (found : Found) : Type 0 where
  pub files : List (List ℕ)
  pub are : AreFiles holds (length names) files
  pub registry : AreRegistrations payees (finds_by names files) links found.registry
  pub found_for : IsFoundFor (files_by names files) links rows found

-- these are the rows of a work
abbrev pub AreRowsOf : List Link → (work : List ℕ) → List WorksRow → Type 0
AreRowsOf links work rows = map link_shown rows ≡ links_of links work

-- The text explains the line in a row of a usage list that was read, by what was found for the rows of its work.
pub record IsRowExplained (table : List (ℕ × List ℕ)) (found : Found) (rows : List WorksRow) (usage : Result (List UsageLine) LineFault) (row : ℕ) (text : List ℕ) : Type 0 where
  pub uses : List UsageLine
  pub of : usage ≡ Ok uses
  pub line : UsageLine
  pub at : IsRow uses row line
  pub here : (0 < row) × (slice_get uses (row - 1) ≡ Some line)
  pub explains : (files : List (List ℕ × List (List ℕ))) (links : List Link) → AreRowsOf links line.work rows → IsFoundFor files links rows found
      → text ≡ text_of (submitted_rows table found.registry files links row line)

-- memory was refused, or the usage list is refused for this
abbrev pub IsFaultOfUses : (usage : Result (List UsageLine) LineFault) → SubmittedFault → Type 0
IsFaultOfUses usage fault = (fault ≡ Room) ⊎ ((own : LineFault) × (usage ≡ Err own) × (fault ≡ fault_of_usage own))

-- The text explains the line in a row of a usage list that was read, by the registrations that links come to with the files.
pub record IsExplainedBy (names : List (List ℕ)) (holds : ℕ → List ℕ → Type 0) (table : List (ℕ × List ℕ)) (payees : List (List ℕ × List ℕ)) (links : List Link)
    (usage : Result (List UsageLine) LineFault) (row : ℕ) (text : List ℕ) : Type 0 where
  pub uses : List UsageLine
  pub of : usage ≡ Ok uses
  pub files : List (List ℕ)
  pub are : AreFiles holds (length names) files
  pub registered : Registered
  pub registrations : AreRegistrations payees (finds_by names files) links registered
  pub line : UsageLine
  pub at : IsRow uses row line
  pub rows : text ≡ text_of (submitted_rows table registered (files_by names files) links row line)

-- the list has no such row, and the files come to registrations
pub record HasNoRowBy (names : List (List ℕ)) (holds : ℕ → List ℕ → Type 0) (payees : List (List ℕ × List ℕ)) (links : List Link)
    (usage : Result (List UsageLine) LineFault) (row : ℕ) : Type 0 where
  pub uses : List UsageLine
  pub of : usage ≡ Ok uses
  pub files : List (List ℕ)
  pub are : AreFiles holds (length names) files
  pub registered : Registered
  pub registrations : AreRegistrations payees (finds_by names files) links registered
  pub beyond : (row ≡ 0) ⊎ (length uses < row)

-- They come to none, or they do and the usage list is refused.
abbrev pub IsFaultBehind : (names : List (List ℕ)) → (holds : ℕ → List ℕ → Type 0) → (refuses : ℕ → Type 0) → (payees : List (List ℕ × List ℕ)) → List Link
    → (usage : Result (List UsageLine) LineFault) → SubmittedFault → Type 0
IsFaultBehind names holds refuses payees links usage fault =
    IsFaultOfRegistrations names holds refuses payees links fault
    ⊎ ((files : List (List ℕ)) × AreFiles holds (length names) files × (registered : Registered) × AreRegistrations payees (finds_by names files) links registered
    × IsFaultOfUses usage fault)
