-- What an import makes of all of an export.
use Rattle.std.specs.Io.KnownBytes.{Appends}
use Rattle.std.specs.Prelude.{ℕ, ◌≡◌, ◌++◌, ◌∷◌, [], Bool, List, None, Option, Some, map, true, false, ⊤}
use Rattle.csv_table.specs.Written.{text_of, text_of_row}
use Rattle.export_rows.specs.Places.{AreRowsOf, HasRead, Place}
use Rattle.sales_lines.specs.declared.settings.Settings.{Settings}
use Rattle.sales_import.specs.Imported.{AreMade, Made, line_header, line_row, reject_header, rejects_text}
use Rattle.sales_import.specs.Mapped.{AreSettings, Header, IsMappingFault}
use Rattle.sales_import.specs.SoFar.{AreCounted}
use Rattle.sales_import.specs.declared.import_fault.ImportFault.{ImportFault}
use Rattle.sales_import.specs.declared.import_fault.ImportFault.TheVariants.{Headless, Column}
use Rattle.sales_import.specs.declared.mapping.Mapping.{Mapping}
use Rattle.sales_import.specs.declared.mapping.Maps.{Maps}
use Rattle.sales_import.specs.declared.summary.Summary.{Summary}

-- rows are a header and those below it, or, without a header, all of them
abbrev pub IsCut : (has_header : Bool) → List (List (List ℕ)) → Header → (below : List (List (List ℕ))) → Type 0
IsCut true rows header below = (fields : List (List ℕ)) × (rows ≡ fields ∷ below) × (header ≡ Some fields)
IsCut false rows header below = (rows ≡ below) × (header ≡ None)

abbrev pub reject_header_text : Header → List ℕ
reject_header_text None = []
reject_header_text (Some fields) = text_of_row (reject_header fields)

-- Each row below the header became a usage line, or was rejected, or passed over, by what the words say of the header,
-- and both tables have the rows of it behind what they had.
pub record IsImport (mapping : Mapping) (maps : Maps) (text : List ℕ)
    (old_lines new_lines old_rejects new_rejects : Option (List ℕ)) (told : Summary) : Type 0 where
  pub rows : List (List (List ℕ))
  pub are_rows : AreRowsOf mapping.delimiter text rows
  pub header : Header
  pub below : List (List (List ℕ))
  pub cut : IsCut mapping.has_header rows header below
  pub settings : Settings
  pub are_settings : AreSettings mapping maps header settings
  pub made : Made
  pub are_made : AreMade settings 1 below made
  pub lines : Appends old_lines new_lines (text_of (line_header ∷ map line_row made.lines))
  pub rejects : Appends old_rejects new_rejects (reject_header_text header ++ rejects_text made)
  pub counted : AreCounted made told

-- ---- why there is no import

-- this is the first row of an export, where there has to be a header
abbrev pub IsHeaderOf : Mapping → (text : List ℕ) → Header → Type 0
IsHeaderOf mapping text None = mapping.has_header ≡ false
IsHeaderOf mapping text (Some fields) = (mapping.has_header ≡ true)
    × (place : Place) × HasRead mapping.delimiter (Some text) (fields ∷ []) place

-- there is no header, or a word does not say where a value stands; or a read, a write or memory was refused
abbrev pub IsImportFault : Mapping → (text : List ℕ) → ImportFault → Type 0
IsImportFault mapping text Headless = (mapping.has_header ≡ true) × AreRowsOf mapping.delimiter text []
IsImportFault mapping text (Column fault word) =
    (header : Header) × IsHeaderOf mapping text header × IsMappingFault mapping header (Column fault word)
IsImportFault mapping text _ = ⊤

-- what there is to begin with fails for its words, or since memory or a write was refused
abbrev pub IsFaultOfHeader : Mapping → Header → ImportFault → Type 0
IsFaultOfHeader mapping header Headless = ⊥
IsFaultOfHeader mapping header (Column fault word) = IsMappingFault mapping header (Column fault word)
IsFaultOfHeader mapping header _ = ⊤
