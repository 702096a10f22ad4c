-- What is found in the inputs of a run over the files of several submitters, where reading goes on past what is
-- refused.
use Rattle.std.specs.Prelude.{ℕ, ◌≡◌, ◌==◌, ◌&&◌, ◌<◌, Bool, true, false, List, [], AllPairs, Option, Some, None}
use Rattle.std.specs.Prelude.{is_some, length, map, not, slice_index_or}
use Rattle.std.specs.List.{list_all}
use Rattle.csv_table.specs.ReadOn.{ReadsOn}
use Rattle.csv_table.specs.RowTable as tables
use Rattle.csv_table.specs.Table.{rows_of}
use Rattle.cwr_share.specs.CwrReading.{Reads, Refuses, Stops}
use Rattle.cwr_share.specs.InForce.{HasInForce}
use Rattle.cwr_share.specs.Lines.{lines_of}
use Rattle.cwr_share.specs.Registered.{Registered}
use Rattle.cwr_share.specs.Registrations.{ShareLine}
use Rattle.cwr_share.specs.declared.cwr_fault.CwrFault.{CwrFault}
use Rattle.cwr_share.specs.declared.payee_fault.PayeeFault.{PayeeFault}
use Rattle.line_split.specs.UsageLine.{UsageLine}
use Rattle.line_split.specs.UsageTable as usage
use Rattle.line_split.specs.declared.line_fault.LineFault.{LineFault}
use Rattle.linked_works.specs.Linked.{Finds, Link}
use Rattle.linked_works.specs.ManyPayees.{IsFaultOfLinks}
use Rattle.linked_works.specs.SubmitterPayees.{payee_rules}
use Rattle.linked_works.specs.WorksTable.{works_rules}
use Rattle.linked_works.specs.declared.works_fault.WorksFault.{WorksFault}
use Rattle.linked_works.specs.declared.works_fault.WorksFault.TheVariants.{Memory}
use Rattle.submitted_inputs.specs.Submitted.{AreRegistrations, finds_by}
use Rattle.submitted_inputs.specs.declared.inputs.SubmittedTables.{SubmittedTables}
use Rattle.tis_tree.specs.TisRows as tis
use Rattle.tis_tree.specs.declared.tis_fault.TisFault.{TisFault}
use Rattle.usage_totals.specs.declared.totals.Totals.{Totals}
use Rattle.check_inputs.specs.Found.{AreTotalsIfSound}

-- a table of payees by submitter that need not be there is read without these rows
abbrev pub ArePayeesWithout : (names : List (List ℕ)) → Option (List ℕ) → List (List (List ℕ) × PayeeFault)
    → List (List ℕ × List ℕ)
    → Type 0
ArePayeesWithout names None out rows = (out ≡ []) × (rows ≡ [])
ArePayeesWithout names (Some file) out rows = tables.IsReadWithout (payee_rules names) (rows_of file) out rows

-- and a table of works
abbrev pub AreLinksWithout : (names : List (List ℕ)) → List ℕ → List (List (List ℕ) × WorksFault) → List Link → Type 0
AreLinksWithout names file out links = tables.IsReadWithout (works_rules names) (rows_of file) out links

-- The lines that are left out of a CWR file, and the registrations in force of those that are read, each once and in
-- any order.
pub record AreInForceWithout (lines : List (List ℕ)) (out : List (List ℕ × CwrFault))
    (works : List (List ℕ × List ShareLine))
    : Type 0 where
  pub kept : List (List ℕ)
  pub end : ℕ
  pub read : ReadsOn Reads Refuses Stops [] 1 lines out kept end []
  pub in_force : HasInForce kept works
  pub once : AllPairs (λ entry later. ¬ (entry.0 ≡ later.0)) works

-- a CWR file, with its faults and what is in force without these
pub record FileFound : Type 0 where
  pub path : List ℕ
  pub bytes : List ℕ
  pub faults : List (List ℕ × CwrFault)
  pub works : List (List ℕ × List ShareLine)

-- a file has these bytes, and these are its faults and what is in force without them
pub record IsFileFound (holds : List ℕ → Type 0) (file : FileFound) : Type 0 where
  pub held : holds file.bytes
  pub is_read : AreInForceWithout (lines_of file.bytes) file.faults file.works

-- the same of each file; these are the paths in the report
pub record AreFilesFound (holds : ℕ → List ℕ → Type 0) (paths : List (List ℕ)) (files : List FileFound) : Type 0 where
  pub paths_are : map (λ file. file.path) files ≡ paths
  pub each : (place : ℕ) (d : FileFound) → place < length files
      → IsFileFound (holds place) (slice_index_or files place d)

-- what finds the share lines of a registration in force, in these files of submitters with these names
abbrev pub finds_of : (names : List (List ℕ)) → List FileFound → Finds
finds_of names files = finds_by names (map (λ file. file.bytes) files)

abbrev pub has_no_fault : FileFound → Bool
has_no_fault file = length file.faults == 0

-- the faults of each input, and what the rest was read as
pub record SubmittedFound : Type 0 where
  pub of_territories : List (List (List ℕ) × TisFault)
  pub of_payees : List (List (List ℕ) × PayeeFault)
  pub of_works : List (List (List ℕ) × WorksFault)
  pub files : List FileFound
  -- what the links are refused for, with all files
  pub of_links : Option WorksFault
  pub of_usage : List (List (List ℕ) × LineFault)
  pub table : List (ℕ × List ℕ)
  pub rows : List (List ℕ × List ℕ)
  pub links : List Link
  pub registered : Option Registered
  pub lines : List UsageLine
  -- what a run makes of the lines
  pub totals : Option Totals

-- neither the table of payees nor that of works has a fault, and no CWR file has
abbrev pub are_linked : SubmittedFound → Bool
are_linked found = (length found.of_payees == 0) && (length found.of_works == 0) && list_all has_no_fault found.files

-- no input has a fault, and the links are not refused
abbrev pub is_sound : SubmittedFound → Bool
is_sound found =
    (length found.of_territories == 0) && are_linked found && not (is_some found.of_links)
    && (length found.of_usage == 0)

-- Where all that links are made of has no fault, they give the registrations of a run, or are refused.
abbrev pub AreLinked : (linked : Bool) → (rows : List (List ℕ × List ℕ)) → Finds → List Link → Option WorksFault
    → Option Registered
    → Type 0
AreLinked true rows finds links None (Some registered) = AreRegistrations rows finds links registered
AreLinked true rows finds links None None = ⊥
AreLinked true rows finds links (Some fault) registered =
    IsFaultOfLinks rows finds links fault × (¬ (fault ≡ Memory)) × (registered ≡ None)
AreLinked false rows finds links fault registered = (fault ≡ None) × (registered ≡ None)

-- Each input is read whatever is in the others, for submitters with these names and files with these paths.
pub record IsFoundIn (names paths : List (List ℕ)) (holds : ℕ → List ℕ → Type 0) (tables : SubmittedTables (List ℕ))
    (found : SubmittedFound) : Type 0 where
  pub territories : tis.IsReadWithout (rows_of tables.territories) found.of_territories found.table
  pub payees : ArePayeesWithout names tables.payees found.of_payees found.rows
  pub works : AreLinksWithout names tables.works found.of_works found.links
  pub files_are : AreFilesFound holds paths found.files
  pub linked : AreLinked (are_linked found) found.rows
      (finds_of names found.files) found.links found.of_links found.registered
  pub usage : usage.IsReadWithout (rows_of tables.usage) found.of_usage found.lines
  pub totals : AreTotalsIfSound (is_sound found) found.table found.registered found.lines found.totals
