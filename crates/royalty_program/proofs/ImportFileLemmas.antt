-- What an import keeps, and what it leaves.
use Rattle.std.proofs.Common.{◌≡◌, ◌≢◌, ◌⊎◌, ◌↔◌, ℕ, List, [], ◌∷◌, ◌++◌, IsTrue, Option, None, Some, Result, Err, Ok, drop, inl, inr, map, refl, subst, sym}
use Rattle.std.specs.Io.KnownBytes.{Appends}
use Rattle.std.specs.Option.{IfSome}
use Rattle.std.specs.Prelude.{String, string_bytes}
use Rattle.std.specs.Result.{IfOk, OnOk}
use Rattle.std.specs.declared.alloc.Global.{Global}
use Rattle.std.specs.declared.io.ErrorKind.{ErrorKind}
use Rattle.std.specs.declared.io.ErrorKind.TheVariants.{OutOfMemory}
use Rattle.csv_table.specs.Written.{text_of}
use Rattle.royalty_program.specs.ImportAnswered.{IsLeftByImport}
use Rattle.royalty_program.specs.ImportCommand.{AreImportFrom}
use Rattle.royalty_program.specs.ImportFiles.{AreAllLeft, AreKept, AreLeftOrWhole, AreLeftOrWritten, AreOthersLeft, AreTablesKept}
use Rattle.royalty_program.specs.ImportFiles.{IsMadeOver, IsOfExport, IsOfMap, IsOfPaths, IsToldOf}
use Rattle.royalty_program.specs.MergeFiles.{Gives, HoldsOf}
use Rattle.royalty_program.specs.Status.{IsOfFile, failure_of_file, failure_of_target}
use Rattle.royalty_program.specs.Targets.{IsLeft, IsLeftOrWhole}
use Rattle.royalty_program.specs.declared.failure.Failure.{Failure}
use Rattle.royalty_program.specs.declared.failure.Failure.TheVariants.{File, Room, Target}
use Rattle.royalty_program.specs.declared.import_command.ImportWords.{ImportWords}
use Rattle.royalty_program.specs.declared.import_files.Imported.{Imported}
use Rattle.royalty_program.specs.declared.import_command.TablePaths.{TablePaths}
use Rattle.sales_import.specs.Exported.{IsImport, IsImportFault, reject_header_text}
use Rattle.sales_import.specs.Imported.{line_header, line_row, rejects_text}
use Rattle.sales_import.specs.SummaryText.{summary_text}
use Rattle.sales_import.specs.declared.import_fault.ImportFault.{ImportFault}
use Rattle.sales_import.specs.declared.import_fault.ImportFault.TheVariants as fault
use Rattle.sales_import.specs.declared.mapping.Mapping.{Mapping}
use Rattle.sales_import.specs.declared.mapping.Maps.{Maps}
use Rattle.sales_import.specs.declared.summary.Summary.{Summary}
use Rattle.sales_lines.specs.declared.column_fault.ColumnFault.TheVariants as column
use Rattle.value_maps.specs.declared.kind.Kind.{Kind}

-- what holds of what is known, where more follows from it
pub of_known : (P Q : List ℕ → Type 0) (known : Option (List ℕ)) → ((text : List ℕ) → P text → Q text) → IfSome known P → IfSome known Q
of_known P Q None more is = tt
of_known P Q (Some text) more is = more text is

-- what is left, and then left again, is left
pub left_then : (old mid new : Option (List ℕ) → Type 0) → IsLeft old mid → IsLeft mid new → IsLeft old new
left_then old mid new first second file had = second file (first file had)

pub left_first : (old mid new : Option (List ℕ) → Type 0) (P : Type 0) → IsLeft old mid → IsLeft mid new ⊎ P → IsLeft old new ⊎ P
left_first old mid new P first (inl second) = inl (left_then old mid new first second)
left_first old mid new P first (inr is) = inr is

-- both tables of an import, whole, whatever the outputs had
record AreWhole (mapping : Mapping) (maps : Maps) (text : List ℕ) (blank lines rejects : Option (List ℕ)) (summary : Summary) : Type 0 where
  lines_are : List ℕ
  rejects_are : List ℕ
  lines_added : Appends blank lines lines_are
  rejects_added : Appends blank rejects rejects_are
  import : IsImport mapping maps text (Some []) (Some lines_are) (Some []) (Some rejects_are) summary

whole_of : (mapping : Mapping) (maps : Maps) (text : List ℕ) (blank lines rejects : Option (List ℕ)) (summary : Summary) → IsImport mapping maps text blank lines blank rejects summary
    → AreWhole mapping maps text blank lines rejects summary
whole_of mapping maps text blank lines rejects summary is = record {
  lines_are = text_of (line_header ∷ map line_row is.made.lines);
  rejects_are = reject_header_text is.header ++ rejects_text is.made;
  lines_added = is.lines;
  rejects_added = is.rejects;
  import = record {
    rows = is.rows;
    are_rows = is.are_rows;
    header = is.header;
    below = is.below;
    cut = is.cut;
    settings = is.settings;
    are_settings = is.are_settings;
    made = is.made;
    are_made = is.are_made;
    lines = refl;
    rejects = refl;
    counted = is.counted;
  };
}

module _ (old mid new : List ℕ → Option (List ℕ) → Type 0) (gives : List ℕ → List ℕ → Type 0) (tables : TablePaths) (mapping : Mapping) (maps : Maps) (summary : Summary)
    (blank lines rejects : Option (List ℕ)) where
  -- drafts that have the tables of an import are kept as these
  pub made_whole : (known : Option (List ℕ)) → Gives (gives (string_bytes tables.export)) known → IfSome known (λ text. IsImport mapping maps text blank lines blank rejects summary)
      → AreKept blank lines rejects new tables → HoldsOf (gives (string_bytes tables.export)) (AreTablesKept new tables mapping maps summary)
  made_whole known given imported kept = record {
    known = known;
    given = given;
    holds_of = of_known _ _ known (λ text is.
        let whole = whole_of mapping maps text blank lines rejects summary is in record {
          lines = whole.lines_are;
          rejects = whole.rejects_are;
          import = whole.import;
          lines_kept = kept.lines_kept whole.lines_are whole.lines_added;
          rejects_kept = kept.rejects_kept whole.rejects_are whole.rejects_added;
        }) imported;
  }

  -- or each path has what it had
  pub left_or_made : (known : Option (List ℕ)) → Gives (gives (string_bytes tables.export)) known → IfSome known (λ text. IsImport mapping maps text blank lines blank rejects summary)
      → AreAllLeft old mid → AreLeftOrWhole blank lines rejects mid new tables → AreOthersLeft mid new tables → AreLeftOrWritten old new gives tables mapping
  left_or_made known given imported before left others = record {
    others = λ path one two. left_then (old path) (mid path) (new path) (before path) (others path one two);
    maps = maps;
    summary = summary;
    written = record {
      known = known;
      given = given;
      holds_of = of_known _ _ known (λ text is.
          let whole = whole_of mapping maps text blank lines rejects summary is in record {
            lines = whole.lines_are;
            rejects = whole.rejects_are;
            import = whole.import;
            lines_left = left_first _ _ _ _ (before (string_bytes tables.output)) (left.lines_left whole.lines_are whole.lines_added);
            rejects_left = left_first _ _ _ _ (before (string_bytes tables.rejects)) (left.rejects_left whole.rejects_are whole.rejects_added);
          }) imported;
    };
  }

-- the rejected rows are kept, and the usage lines are not, or their path has them all the same
pub kept_then_failed : (old mid new : List ℕ → Option (List ℕ) → Type 0) (tables : TablePaths) (blank lines rejects : Option (List ℕ)) (Whole : Type 0) → string_bytes tables.output ≢ string_bytes tables.rejects
    → ((other : List ℕ) → other ≢ string_bytes tables.rejects → IsLeft (old other) (mid other))
    → ((text : List ℕ) → Appends blank rejects text → mid (string_bytes tables.rejects) (Some text))
    → ((other : List ℕ) → other ≢ string_bytes tables.output → IsLeft (mid other) (new other))
    → IsLeft (mid (string_bytes tables.output)) (new (string_bytes tables.output)) ⊎ (Whole × IsLeftOrWhole blank lines (mid (string_bytes tables.output)) (new (string_bytes tables.output)))
    → AreLeftOrWhole blank lines rejects old new tables
kept_then_failed old mid new tables blank lines rejects Whole apart before kept others left = record {
  lines_left = λ text added. elim left [
    | inl same ↦ inl (left_then _ _ _ (before (string_bytes tables.output) apart) same)
    | inr (whole, either) ↦ left_first _ _ _ _ (before (string_bytes tables.output) apart) (either text added)
  ];
  rejects_left = λ text added. inr (others (string_bytes tables.rejects) (λ same. apart (sym same)) (Some text) (kept text added));
}

-- what an import answers, where both tables are kept
pub made_over : (old mid new : List ℕ → Option (List ℕ) → Type 0) (gives : List ℕ → List ℕ → Type 0) (tables : TablePaths) (mapping : Mapping) (maps : Maps) (summary : Summary)
    (blank lines rejects : Option (List ℕ)) (r : Result Imported Failure) (known : Option (List ℕ)) → Gives (gives (string_bytes tables.export)) known
    → IfSome known (λ text. IsImport mapping maps text blank lines blank rejects summary) → OnOk r (AreKept blank lines rejects new tables)
    → IfOk r (λ imported. imported.text.items ≡ summary_text (string_bytes tables.export) summary) → IfOk r (λ imported. IsTrue imported.is_whole ↔ (summary.rejected.rows ≡ 0))
    → IfOk r (λ imported. IsMadeOver new gives tables mapping maps imported.is_whole imported.text.items)
made_over old mid new gives tables mapping maps summary blank lines rejects (Err failure) known given is kept told whole = tt
made_over old mid new gives tables mapping maps summary blank lines rejects (Ok imported) known given is kept told whole = record {
  summary = summary;
  made = made_whole old mid new gives tables mapping maps summary blank lines rejects known given is kept;
  told = told;
  whole = whole;
}

-- so the words of an import leave it
pub left_import : (old new : List ℕ → Option (List ℕ) → Type 0) (gives : List ℕ → List ℕ → Type 0) (words : List (List ℕ)) (asked : ImportWords) → AreImportFrom (drop 1 words) asked
    → AreAllLeft old new ⊎ AreLeftOrWritten old new gives asked.tables asked.mapping → IsLeftByImport old new gives words
left_import old new gives words asked are (inl all) = inl all
left_import old new gives words asked are (inr left) = inr (record { asked = asked; are = are; left = left })

-- ---- why there is no import

-- a file that is not read is told as that, or as lack of memory
pub unread_is : (kind : ErrorKind) (path : String Global) → (failure_of_file kind path ≡ Room) ⊎ (failure_of_file kind path ≡ File path)
unread_is OutOfMemory path = inl refl
unread_is kind path = inr refl

pub unkept_is : (kind : ErrorKind) (path : String Global) → (failure_of_target kind path ≡ Room) ⊎ (failure_of_target kind path ≡ Target path)
unkept_is OutOfMemory path = inl refl
unkept_is kind path = inr refl

-- a table of values that is not read is none
pub map_unread : (holds : List ℕ → List ℕ → Type 0) (refuses : List ℕ → ErrorKind → Type 0) (what : Kind) (path : String Global) (failure : Failure) → IsOfFile refuses path failure
    → IsOfMap holds refuses what (string_bytes path) failure
map_unread holds refuses what path failure fails = subst (IsOfMap holds refuses what (string_bytes path)) (sym fails.2) (by fails.0 fails.1)
  where
    by : (kind : ErrorKind) → refuses (string_bytes path) kind → IsOfMap holds refuses what (string_bytes path) (failure_of_file kind path)
    by OutOfMemory refused = tt
    by kind refused = (refl, (kind, refused, λ memory. cc))

-- what a path fails for that cannot be looked at
pub output_unkept : (tables : TablePaths) (kind : ErrorKind) → IsOfPaths tables (failure_of_target kind tables.output)
output_unkept tables OutOfMemory = tt
output_unkept tables kind = inl refl

pub rejects_unkept : (tables : TablePaths) (kind : ErrorKind) → IsOfPaths tables (failure_of_target kind tables.rejects)
rejects_unkept tables OutOfMemory = tt
rejects_unkept tables kind = inr refl

module _ (gives : List ℕ → List ℕ → Type 0) (tables : TablePaths) (mapping : Mapping) where
  -- a report that cannot be read, or a table that cannot be begun
  pub export_unread : (kind : ErrorKind) → IsOfExport gives tables mapping (failure_of_file kind tables.export)
  export_unread OutOfMemory = tt
  export_unread kind = refl

  pub lines_unkept : (kind : ErrorKind) → IsOfExport gives tables mapping (failure_of_target kind tables.output)
  lines_unkept OutOfMemory = tt
  lines_unkept kind = inl refl

  pub rejected_unkept : (kind : ErrorKind) → IsOfExport gives tables mapping (failure_of_target kind tables.rejects)
  rejected_unkept OutOfMemory = tt
  rejected_unkept kind = inr refl

  -- one of the two that cannot be kept
  pub of_keeping : (failure : Failure) → (failure ≡ Room) ⊎ (failure ≡ Target tables.output) ⊎ (failure ≡ Target tables.rejects) → IsOfExport gives tables mapping failure
  of_keeping failure (inl room) = subst (IsOfExport gives tables mapping) (sym room) tt
  of_keeping failure (inr (inl lines)) = subst (IsOfExport gives tables mapping) (sym lines) (inl refl)
  of_keeping failure (inr (inr rejects)) = subst (IsOfExport gives tables mapping) (sym rejects) (inr refl)

  -- a fault of an import is told as what it is
  pub of_fault : (known : Option (List ℕ)) (found : ImportFault) (failure : Failure) → Gives (gives (string_bytes tables.export)) known → IsToldOf tables found failure
      → IfSome known (λ text. IsImportFault mapping text found) → IsOfExport gives tables mapping failure
  of_fault known (fault.Read error) failure given (inl room) is = subst (IsOfExport gives tables mapping) (sym room) tt
  of_fault known (fault.Read error) failure given (inr file) is = subst (IsOfExport gives tables mapping) (sym file) refl
  of_fault known (fault.Lines error) failure given (inl room) is = subst (IsOfExport gives tables mapping) (sym room) tt
  of_fault known (fault.Lines error) failure given (inr lines) is = subst (IsOfExport gives tables mapping) (sym lines) (inl refl)
  of_fault known (fault.Rejects error) failure given (inl room) is = subst (IsOfExport gives tables mapping) (sym room) tt
  of_fault known (fault.Rejects error) failure given (inr rejects) is = subst (IsOfExport gives tables mapping) (sym rejects) (inr refl)
  of_fault known fault.Headless failure given told is = subst (IsOfExport gives tables mapping) (sym told) (refl, record { known = known; given = given; holds_of = is })
  of_fault known (fault.Column column.NoHeader word) failure given told is = subst (IsOfExport gives tables mapping) (sym told) (record { known = known; given = given; holds_of = is })
  of_fault known (fault.Column column.None word) failure given told is = subst (IsOfExport gives tables mapping) (sym told) (refl, record { known = known; given = given; holds_of = is })
  of_fault known (fault.Column column.Many word) failure given told is = subst (IsOfExport gives tables mapping) (sym told) (refl, record { known = known; given = given; holds_of = is })
  of_fault known (fault.Column column.Memory word) failure given told is = subst (IsOfExport gives tables mapping) (sym told) tt
  of_fault known fault.Memory failure given told is = subst (IsOfExport gives tables mapping) (sym told) tt
