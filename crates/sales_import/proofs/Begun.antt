-- All of an export, by what it begins with.
use Rattle.std.proofs.Common.{◌≡◌, ◌++◌, ◌∷◌, [], ℕ, Bool, false, true, List, None, Option, Some, IfSome, refl, sym}
use Rattle.std.specs.Io.KnownBytes.{Appends}
use Rattle.std.proofs.KnownBytes.{Appends-trans}
use Rattle.std.proofs.lemmas.Bool.{false≢true}
use Rattle.csv_table.specs.Written.{text_of_row}
use Rattle.export_rows.specs.Places.{AreRowsOf, HasEnded, HasRead, Place}
use Rattle.export_rows.proofs.Taken.{all_read}
use Rattle.sales_lines.specs.declared.settings.Settings.{Settings}
use Rattle.sales_import.specs.Exported.{IsCut, IsFaultOfHeader, IsHeaderOf, IsImport, IsImportFault, reject_header_text}
use Rattle.sales_import.specs.Imported.{line_header, lines_text, rejects_text}
use Rattle.sales_import.specs.Mapped.{AreSettings, Header, IsMappingFault}
use Rattle.sales_import.specs.SoFar.{IsImported, IsOfRows}
use Rattle.sales_import.specs.declared.import_fault.ImportFault.{ImportFault}
use Rattle.sales_import.specs.declared.import_fault.ImportFault.TheVariants.{Read, Lines, Rejects, Headless, Column, Memory}
use Rattle.sales_import.specs.declared.mapping.Mapping.{Mapping}
use Rattle.sales_import.specs.declared.mapping.Maps.{Maps}
use Rattle.sales_import.specs.declared.summary.Summary.{Summary}

module _ (mapping : Mapping) (maps : Maps) (header : Header) (before : List (List (List ℕ))) (place : Place) (settings : Settings)
    (lines begun_lines last_lines rejects begun_rejects last_rejects : Option (List ℕ)) (told : Summary) where
  pub imported_below : (text : List ℕ) → HasRead mapping.delimiter (Some text) before place
      → ((below : List (List (List ℕ))) → IsCut mapping.has_header (before ++ below) header below) → AreSettings mapping maps header settings
      → Appends lines begun_lines (text_of_row line_header) → Appends rejects begun_rejects (reject_header_text header)
      → IsImported settings place begun_lines last_lines begun_rejects last_rejects told
      → IsImport mapping maps text lines last_lines rejects last_rejects told
  imported_below text read cut are begun begun_too imported =
      let (below, rows_are, of) = imported mapping.delimiter (Some text) before read in
      record {
        rows = before ++ below;
        are_rows = rows_are;
        header = header;
        below = below;
        cut = cut below;
        settings = settings;
        are_settings = are;
        made = of.made;
        are_made = of.are;
        lines = Appends-trans lines begun_lines last_lines (text_of_row line_header) (lines_text of.made) begun of.lines;
        rejects = Appends-trans rejects begun_rejects last_rejects (reject_header_text header) (rejects_text of.made) begun_too of.rejects;
        counted = of.counted;
      }

-- without a header all rows are below it
pub cut_all : (has_header : Bool) → has_header ≡ false → (below : List (List (List ℕ))) → IsCut has_header ([] ++ below) None below
cut_all true none below = absurd (false≢true (sym none))
cut_all false none below = (refl, refl)

-- and with one, the first is it
pub cut_first : (has_header : Bool) → has_header ≡ true → (fields : List (List ℕ)) (below : List (List (List ℕ)))
    → IsCut has_header ((fields ∷ []) ++ below) (Some fields) below
cut_first true has fields below = (fields, refl, refl)
cut_first false has fields below = absurd (false≢true has)

-- ---- faults

pub of_rows : (mapping : Mapping) (text : List ℕ) (fault : ImportFault) → IsOfRows fault → IsImportFault mapping text fault
of_rows mapping text (Read error) is = tt
of_rows mapping text (Lines error) is = tt
of_rows mapping text (Rejects error) is = tt
of_rows mapping text Headless is = absurd is
of_rows mapping text (Column fault word) is = absurd is
of_rows mapping text Memory is = tt

pub rows_of_header : (mapping : Mapping) (header : Header) (fault : ImportFault) → IsOfRows fault → IsFaultOfHeader mapping header fault
rows_of_header mapping header (Read error) is = tt
rows_of_header mapping header (Lines error) is = tt
rows_of_header mapping header (Rejects error) is = tt
rows_of_header mapping header Headless is = absurd is
rows_of_header mapping header (Column fault word) is = absurd is
rows_of_header mapping header Memory is = tt

-- what is wrong with words is told of a header
pub words_of_header : (mapping : Mapping) (header : Header) (fault : ImportFault) → IsMappingFault mapping header fault → IsFaultOfHeader mapping header fault
words_of_header mapping header (Read error) is = absurd is
words_of_header mapping header (Lines error) is = absurd is
words_of_header mapping header (Rejects error) is = absurd is
words_of_header mapping header Headless is = absurd is
words_of_header mapping header (Column fault word) is = is
words_of_header mapping header Memory is = tt

pub of_header : (mapping : Mapping) (text : List ℕ) (header : Header) (fault : ImportFault) → IsHeaderOf mapping text header → IsFaultOfHeader mapping header fault
    → IsImportFault mapping text fault
of_header mapping text header (Read error) heads is = tt
of_header mapping text header (Lines error) heads is = tt
of_header mapping text header (Rejects error) heads is = tt
of_header mapping text header Headless heads is = absurd is
of_header mapping text header (Column fault word) heads is = (header, heads, is)
of_header mapping text header Memory heads is = tt

-- where it is known what there is to read
pub where_known : {P : List ℕ → Type 0} (known : Option (List ℕ)) → ((text : List ℕ) → known ≡ Some text → P text) → IfSome known P
where_known None is = tt
where_known (Some text) is = is text refl

-- an export that ends before its first row has none
pub no_rows_of : (mapping : Mapping) (text : List ℕ) (place : Place) → HasRead mapping.delimiter (Some text) [] place → HasEnded place → AreRowsOf mapping.delimiter text []
no_rows_of mapping text place read ended = all_read mapping.delimiter (Some text) [] place read ended
