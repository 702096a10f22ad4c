-- What a run over the files of several submitters answers over files, and an explanation and a check of one. `holds
-- path bytes` says that the file of a path has these bytes, and `refuses path kind` that it is refused with an error of
-- this kind.
use Rattle.std.specs.Prelude.{ℕ, ◌≤◌, ◌<◌, ◌⊎◌, All, Bool, Contains, IfSome, List, length, map, string_bytes, ⊤}
use Rattle.std.specs.declared.io.ErrorKind.{ErrorKind}
use Rattle.std.specs.declared.io.ErrorKind.TheVariants.{OutOfMemory}
use Rattle.check_inputs.specs.SubmittedChecked.{IsSubmittedReportOn}
use Rattle.explain_line.specs.Submitted.{IsSubmittedExplanationOf, SubmittedHaveNoRow}
use Rattle.pair_split.specs.Pair.{word_at}
use Rattle.royalty_program.specs.Files.{HoldsIfGiven, IsUnread}
use Rattle.royalty_program.specs.NamedFiles.{name_in, path_in}
use Rattle.royalty_program.specs.OutputPath.{IsOfGiven, IsOther}
use Rattle.starting_files.specs.Tables.{IsTableOf}
use Rattle.starting_files.specs.declared.making.StartingTable.{StartingTable}
use Rattle.royalty_program.specs.declared.inputs.SubmittedInputs.{SubmittedInputs}
use Rattle.submitted_inputs.specs.Submitted.{IsFaultOf, map_tables}
use Rattle.submitted_inputs.specs.declared.fault.SubmittedFault.{SubmittedFault}
use Rattle.submitted_inputs.specs.declared.fault.SubmittedFault.TheVariants.{Cwr, Unreadable}
use Rattle.submitted_inputs.specs.declared.inputs.SubmittedTables.{SubmittedTables}
use Rattle.submitted_laws.specs.SubmittedStatements.{AreStatementsOf}

-- the paths of the tables, the names of the submitters, and the paths of their files in the order of the names
pub record SubmittedPaths : Type 0 where
  pub tables : SubmittedTables (List ℕ)
  pub names : List (List ℕ)
  pub files : List (List ℕ)

abbrev pub paths_of : SubmittedInputs → SubmittedPaths
paths_of inputs = record {
  tables = map_tables string_bytes inputs.tables;
  names = inputs.files.names;
  files = map string_bytes inputs.files.paths.items;
}

-- the file of a place among these has such bytes
abbrev pub HoldsAt : (holds : List ℕ → List ℕ → Type 0) → (files : List (List ℕ)) → ℕ → List ℕ → Type 0
HoldsAt holds files place bytes = (place < length files) × holds (word_at files place) bytes

-- and cannot be read
abbrev pub RefusesAt : (refuses : List ℕ → ErrorKind → Type 0) → (files : List (List ℕ)) → ℕ → Type 0
RefusesAt refuses files place = (length files ≤ place) ⊎ IsUnread refuses (word_at files place)

-- and there is no memory for it
abbrev pub LacksAt : (refuses : List ℕ → ErrorKind → Type 0) → (files : List (List ℕ)) → ℕ → Type 0
LacksAt refuses files place = refuses (word_at files place) OutOfMemory

-- these are the bytes of the tables of these paths
pub record AreTablesRead (holds : List ℕ → List ℕ → Type 0) (paths tables : SubmittedTables (List ℕ)) : Type 0 where
  pub territories : holds paths.territories tables.territories
  pub payees : HoldsIfGiven holds paths.payees tables.payees
  pub works : holds paths.works tables.works
  pub usage : holds paths.usage tables.usage

-- the text is the statements of the tables and files of these paths
pub record AreSubmittedStatementsOver (holds : List ℕ → List ℕ → Type 0) (paths : SubmittedPaths) (text : List ℕ)
    : Type 0 where
  pub tables : SubmittedTables (List ℕ)
  pub read : AreTablesRead holds paths.tables tables
  pub statements : AreStatementsOf paths.names (HoldsAt holds paths.files) tables text

-- the text explains the line in a row of the usage list, by the tables and files of these paths
pub record IsSubmittedExplanationOver (holds : List ℕ → List ℕ → Type 0) (paths : SubmittedPaths) (row : ℕ)
    (text : List ℕ) : Type 0 where
  pub tables : SubmittedTables (List ℕ)
  pub read : AreTablesRead holds paths.tables tables
  pub explanation : IsSubmittedExplanationOf paths.names (HoldsAt holds paths.files) tables row text

-- the text is the report on the tables and files of these paths, and tells whether they are sound
pub record IsSubmittedReportOver (holds : List ℕ → List ℕ → Type 0) (paths : SubmittedPaths) (sound : Bool)
    (text : List ℕ) : Type 0 where
  pub tables : SubmittedTables (List ℕ)
  pub read : AreTablesRead holds paths.tables tables
  pub report : IsSubmittedReportOn paths.names paths.files (HoldsAt holds paths.files) paths.tables tables text sound

-- these are sound, and the usage list has no such row
pub record SubmittedHaveNoRowOver (holds : List ℕ → List ℕ → Type 0) (paths : SubmittedPaths) (row : ℕ) : Type 0 where
  pub tables : SubmittedTables (List ℕ)
  pub read : AreTablesRead holds paths.tables tables
  pub beyond : SubmittedHaveNoRow paths.names (HoldsAt holds paths.files) tables row

-- the fault is the first of the first of the inputs that has one
pub record IsSubmittedFaultOver (holds : List ℕ → List ℕ → Type 0) (refuses : List ℕ → ErrorKind → Type 0)
    (paths : SubmittedPaths) (fault : SubmittedFault) : Type 0 where
  pub tables : SubmittedTables (List ℕ)
  pub read : AreTablesRead holds paths.tables tables
  pub fault_of : IsFaultOf paths.names (HoldsAt holds paths.files) (RefusesAt refuses paths.files) tables fault

-- the text is a table to begin with of the files that values NAME=F name
abbrev pub IsTableOver : (holds : List ℕ → List ℕ → Type 0) → StartingTable → (values : List (List ℕ)) → List ℕ → Type 0
IsTableOver holds table values text = IsTableOf table (map name_in values) (HoldsAt holds (map path_in values)) text

-- a path is that of no table and of no file
pub record IsNoneOf (paths : SubmittedPaths) (path : List ℕ) : Type 0 where
  pub territories : IsOther path paths.tables.territories
  pub payees : IfSome paths.tables.payees (IsOther path)
  pub works : IsOther path paths.tables.works
  pub files : All (IsOther path) paths.files
  pub usage : IsOther path paths.tables.usage

-- some table or file has such a path
abbrev pub IsOfSomeSubmitted : (P : List ℕ → Type 0) → SubmittedPaths → Type 0
IsOfSomeSubmitted P paths = P paths.tables.territories ⊎ IsOfGiven P paths.tables.payees ⊎ P paths.tables.works
    ⊎ P paths.tables.usage ⊎ ((other : List ℕ) × Contains paths.files other × P other)

-- the place that a fault names, where it names one, is one of so many
abbrev pub IsWithin : (count : ℕ) → SubmittedFault → Type 0
IsWithin count (Unreadable place) = place < count
IsWithin count (Cwr place fault) = place < count
IsWithin count _ = ⊤
