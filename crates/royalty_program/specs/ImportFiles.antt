-- What an import answers over files. `holds path bytes` says that the file of a path has these bytes, `gives path text`
-- that an export of any size has this text, and `keeps path file` that a path has a file of these bytes, or none.
use Rattle.std.specs.Io.KnownBytes.{Appends}
use Rattle.std.specs.Option.{option_map}
use Rattle.std.specs.Prelude.{ℕ, ◌≡◌, ◌≢◌, ◌⊎◌, ◌↔◌, [], Bool, IfSome, IsTrue, List, None, Option, Some, String}
use Rattle.std.specs.Prelude.{string_bytes, ⊤}
use Rattle.std.specs.declared.alloc.Global.{Global}
use Rattle.std.specs.declared.io.ErrorKind.{ErrorKind}
use Rattle.csv_table.specs.Table.{rows_of}
use Rattle.royalty_program.specs.Files.{IsUnread}
use Rattle.royalty_program.specs.MergeFiles.{HoldsOf}
use Rattle.royalty_program.specs.OutputPath.{IsOfGiven}
use Rattle.royalty_program.specs.Targets.{IsLeft, IsLeftOrWhole}
use Rattle.royalty_program.specs.declared.failure.Failure.{Failure}
use Rattle.royalty_program.specs.declared.failure.Failure.TheVariants.{BothTables, File, Headless, ManyColumns, Map}
use Rattle.royalty_program.specs.declared.failure.Failure.TheVariants.{NoColumn, NoHeader, Replaces, Room, Target}
use Rattle.royalty_program.specs.declared.import_command.ImportWords.{ImportWords}
use Rattle.royalty_program.specs.declared.import_command.MapPaths.{MapPaths}
use Rattle.royalty_program.specs.declared.import_command.TablePaths.{TablePaths}
use Rattle.sales_import.specs.Exported.{IsImport, IsImportFault}
use Rattle.sales_import.specs.SummaryText.{summary_text}
use Rattle.sales_import.specs.declared.import_fault.ImportFault.{ImportFault}
use Rattle.sales_import.specs.declared.import_fault.ImportFault.TheVariants as fault
use Rattle.sales_import.specs.declared.mapping.Mapping.{Mapping}
use Rattle.sales_import.specs.declared.mapping.Maps.{Maps}
use Rattle.sales_import.specs.declared.summary.Summary.{Summary}
use Rattle.sales_lines.specs.declared.column_fault.ColumnFault.TheVariants as column
use Rattle.value_maps.specs.Maps.{IsFaultOf, IsTableOf, Values}
use Rattle.value_maps.specs.declared.kind.Kind.{Kind}
use Rattle.value_maps.specs.declared.kind.Kind.TheVariants.{Works, Territories, Rights}

-- ---- the paths

-- a path is none of these inputs: that of the export, or of a table of values, as far as there is one
abbrev pub IsNoneOfInputs : TablePaths → MapPaths → (path : List ℕ) → Type 0
IsNoneOfInputs tables maps path = (path ≢ string_bytes tables.export)
    × IfSome maps.works (λ map. path ≢ string_bytes map)
    × IfSome maps.territories (λ map. path ≢ string_bytes map)
    × IfSome maps.rights (λ map. path ≢ string_bytes map)

-- the tables that are written are no inputs, and two
pub record AreApart (tables : TablePaths) (maps : MapPaths) : Type 0 where
  pub output : IsNoneOfInputs tables maps (string_bytes tables.output)
  pub rejects : IsNoneOfInputs tables maps (string_bytes tables.rejects)
  pub two : string_bytes tables.output ≢ string_bytes tables.rejects

-- ---- the tables of values

-- the table of values in the file of a path, where there is one
abbrev pub IsMapOver : (holds : List ℕ → List ℕ → Type 0) → Kind → (path : Option (List ℕ)) → Option Values → Type 0
IsMapOver holds kind None None = ⊤
IsMapOver holds kind (Some path) (Some values) = (bytes : List ℕ) × holds path bytes × (values.kind ≡ kind)
    × IsTableOf kind (rows_of bytes) values.rows
IsMapOver holds kind _ _ = ⊥

pub record AreMapsOver (holds : List ℕ → List ℕ → Type 0) (paths : MapPaths) (maps : Maps) : Type 0 where
  pub works : IsMapOver holds Works (option_map string_bytes paths.works) maps.works
  pub territories : IsMapOver holds Territories (option_map string_bytes paths.territories) maps.territories
  pub rights : IsMapOver holds Rights (option_map string_bytes paths.rights) maps.rights

-- why there is no table of values of a path
abbrev pub IsOfMap : (holds : List ℕ → List ℕ → Type 0) (refuses : List ℕ → ErrorKind → Type 0) → Kind
    → (path : List ℕ) → Failure → Type 0
IsOfMap holds refuses kind path Room = ⊤
IsOfMap holds refuses kind path (File name) = (string_bytes name ≡ path) × IsUnread refuses path
IsOfMap holds refuses kind path (Map fault name) = (string_bytes name ≡ path) × (bytes : List ℕ) × holds path bytes
    × IsFaultOf kind (rows_of bytes) fault
IsOfMap holds refuses kind path _ = ⊥

-- why one of them is none
abbrev pub IsOfOneMap : (holds : List ℕ → List ℕ → Type 0) (refuses : List ℕ → ErrorKind → Type 0) → Kind
    → (path : Option (String Global)) → Failure → Type 0
IsOfOneMap holds refuses kind None failure = ⊥
IsOfOneMap holds refuses kind (Some path) failure = IsOfMap holds refuses kind (string_bytes path) failure

abbrev pub IsOfMaps : (holds : List ℕ → List ℕ → Type 0) (refuses : List ℕ → ErrorKind → Type 0) → MapPaths
    → Failure → Type 0
IsOfMaps holds refuses paths failure = IsOfOneMap holds refuses Works paths.works failure
    ⊎ IsOfOneMap holds refuses Territories paths.territories failure
    ⊎ IsOfOneMap holds refuses Rights paths.rights failure

-- ---- what is kept

-- two drafts are kept under their paths
pub record AreKept (blank lines rejects : Option (List ℕ)) (keeps : List ℕ → Option (List ℕ) → Type 0)
    (tables : TablePaths) : Type 0 where
  pub lines_kept : (text : List ℕ) → Appends blank lines text → keeps (string_bytes tables.output) (Some text)
  pub rejects_kept : (text : List ℕ) → Appends blank rejects text → keeps (string_bytes tables.rejects) (Some text)

-- or each path has what it had, or the whole draft
pub record AreLeftOrWhole (blank lines rejects : Option (List ℕ)) (old new : List ℕ → Option (List ℕ) → Type 0)
    (tables : TablePaths) : Type 0 where
  pub lines_left : IsLeftOrWhole blank lines (old (string_bytes tables.output)) (new (string_bytes tables.output))
  pub rejects_left :
      IsLeftOrWhole blank rejects (old (string_bytes tables.rejects)) (new (string_bytes tables.rejects))

-- The two tables of the import of an export are kept under their paths.
pub record AreTablesKept (keeps : List ℕ → Option (List ℕ) → Type 0) (tables : TablePaths) (mapping : Mapping)
    (maps : Maps) (summary : Summary) (export : List ℕ) : Type 0 where
  pub lines : List ℕ
  pub rejects : List ℕ
  pub import : IsImport mapping maps export (Some []) (Some lines) (Some []) (Some rejects) summary
  pub lines_kept : keeps (string_bytes tables.output) (Some lines)
  pub rejects_kept : keeps (string_bytes tables.rejects) (Some rejects)

-- That is so of what the path of the export gives. The text is the summary, which says whether no row was rejected.
pub record IsMadeOver (keeps : List ℕ → Option (List ℕ) → Type 0) (gives : List ℕ → List ℕ → Type 0)
    (tables : TablePaths) (mapping : Mapping) (maps : Maps) (is_whole : Bool) (text : List ℕ) : Type 0 where
  pub summary : Summary
  pub made : HoldsOf (gives (string_bytes tables.export)) (AreTablesKept keeps tables mapping maps summary)
  pub told : text ≡ summary_text (string_bytes tables.export) summary
  pub whole : IsTrue is_whole ↔ (summary.rejected.rows ≡ 0)

-- and the tables of values are those of their files
pub record IsImportOver (keeps : List ℕ → Option (List ℕ) → Type 0) (holds gives : List ℕ → List ℕ → Type 0)
    (asked : ImportWords) (is_whole : Bool) (text : List ℕ) : Type 0 where
  pub apart : AreApart asked.tables asked.maps
  pub maps : Maps
  pub are_maps : AreMapsOver holds asked.maps maps
  pub made : IsMadeOver keeps gives asked.tables asked.mapping maps is_whole text

-- ---- why there is no import

-- what the export, or a table that is written, fails for
abbrev pub IsOfExport : (gives : List ℕ → List ℕ → Type 0) → TablePaths → Mapping → Failure → Type 0
IsOfExport gives tables mapping Room = ⊤
IsOfExport gives tables mapping (File path) = path ≡ tables.export
IsOfExport gives tables mapping (Target path) = (path ≡ tables.output) ⊎ (path ≡ tables.rejects)
IsOfExport gives tables mapping (Headless path) = (path ≡ tables.export)
    × HoldsOf (gives (string_bytes tables.export)) (λ text. IsImportFault mapping text fault.Headless)
IsOfExport gives tables mapping (NoColumn word path) = (path ≡ tables.export)
    × HoldsOf (gives (string_bytes tables.export)) (λ text. IsImportFault mapping text (fault.Column column.None word))
IsOfExport gives tables mapping (ManyColumns word path) = (path ≡ tables.export)
    × HoldsOf (gives (string_bytes tables.export)) (λ text. IsImportFault mapping text (fault.Column column.Many word))
IsOfExport gives tables mapping (NoHeader word) =
    HoldsOf (gives (string_bytes tables.export)) (λ text. IsImportFault mapping text
    (fault.Column column.NoHeader word))
IsOfExport gives tables mapping _ = ⊥

-- what paths fail for that are not apart
abbrev pub IsOfPaths : TablePaths → Failure → Type 0
IsOfPaths tables Room = ⊤
IsOfPaths tables (Replaces path) = (path ≡ tables.output) ⊎ (path ≡ tables.rejects)
IsOfPaths tables (BothTables path) = path ≡ tables.rejects
IsOfPaths tables (Target path) = (path ≡ tables.output) ⊎ (path ≡ tables.rejects)
IsOfPaths tables _ = ⊥

-- some input of an import has such a path
abbrev pub IsOfSomeOfInputs : (P : List ℕ → Type 0) → TablePaths → MapPaths → Type 0
IsOfSomeOfInputs P tables maps = P (string_bytes tables.export) ⊎ IsOfGiven P (option_map string_bytes maps.works)
    ⊎ IsOfGiven P (option_map string_bytes maps.territories) ⊎ IsOfGiven P (option_map string_bytes maps.rights)

-- One of the two tables would replace an input, or both are to go to one file.
abbrev pub IsInTheWay : (one_file : List ℕ → List ℕ → Type 0) → TablePaths → MapPaths → Failure → Type 0
IsInTheWay one_file tables maps (Replaces path) = IsOfSomeOfInputs (one_file (string_bytes path)) tables maps
IsInTheWay one_file tables maps (BothTables path) =
    one_file (string_bytes tables.output) (string_bytes tables.rejects)
IsInTheWay one_file tables maps _ = ⊤

abbrev pub IsOfImportOver : (holds gives : List ℕ → List ℕ → Type 0) (refuses : List ℕ → ErrorKind → Type 0)
    → ImportWords → Failure → Type 0
IsOfImportOver holds gives refuses asked failure = IsOfPaths asked.tables failure
    ⊎ IsOfMaps holds refuses asked.maps failure
    ⊎ IsOfExport gives asked.tables asked.mapping failure

-- what a fault of the import is told as
abbrev pub IsToldOf : TablePaths → ImportFault → Failure → Type 0
IsToldOf tables (fault.Read error) failure = (failure ≡ Room) ⊎ (failure ≡ File tables.export)
IsToldOf tables (fault.Lines error) failure = (failure ≡ Room) ⊎ (failure ≡ Target tables.output)
IsToldOf tables (fault.Rejects error) failure = (failure ≡ Room) ⊎ (failure ≡ Target tables.rejects)
IsToldOf tables fault.Headless failure = failure ≡ Headless tables.export
IsToldOf tables (fault.Column column.NoHeader word) failure = failure ≡ NoHeader word
IsToldOf tables (fault.Column column.None word) failure = failure ≡ NoColumn word tables.export
IsToldOf tables (fault.Column column.Many word) failure = failure ≡ ManyColumns word tables.export
IsToldOf tables (fault.Column column.Memory word) failure = failure ≡ Room
IsToldOf tables fault.Memory failure = failure ≡ Room

-- ---- what is left where it fails

-- every path has what it had
abbrev pub AreAllLeft : (old new : List ℕ → Option (List ℕ) → Type 0) → Type 0
AreAllLeft old new = (path : List ℕ) → IsLeft (old path) (new path)

-- or every path but the two that are written
abbrev pub AreOthersLeft : (old new : List ℕ → Option (List ℕ) → Type 0) → TablePaths → Type 0
AreOthersLeft old new tables = (path : List ℕ) → path ≢ string_bytes tables.output → path ≢ string_bytes tables.rejects
    → IsLeft (old path) (new path)

-- and each of these has that, or its table of the import of an export, whole
pub record AreLeftOrMade (old new : List ℕ → Option (List ℕ) → Type 0) (tables : TablePaths) (mapping : Mapping)
    (maps : Maps) (summary : Summary) (export : List ℕ) : Type 0 where
  pub lines : List ℕ
  pub rejects : List ℕ
  pub import : IsImport mapping maps export (Some []) (Some lines) (Some []) (Some rejects) summary
  pub lines_left : IsLeft (old (string_bytes tables.output)) (new (string_bytes tables.output))
      ⊎ new (string_bytes tables.output) (Some lines)
  pub rejects_left : IsLeft (old (string_bytes tables.rejects)) (new (string_bytes tables.rejects))
      ⊎ new (string_bytes tables.rejects) (Some rejects)

pub record AreLeftOrWritten (old new : List ℕ → Option (List ℕ) → Type 0) (gives : List ℕ → List ℕ → Type 0)
    (tables : TablePaths) (mapping : Mapping) : Type 0 where
  pub others : AreOthersLeft old new tables
  pub maps : Maps
  pub summary : Summary
  pub written : HoldsOf (gives (string_bytes tables.export)) (AreLeftOrMade old new tables mapping maps summary)
