-- A table to begin with, of the files of submitters. `holds place bytes` says that the file of a place among the names
-- holds these bytes.
use Rattle.std.specs.Prelude.{ℕ, ◌≡◌, ◌++◌, List, flat_map, length, zip}
use Rattle.csv_table.specs.Written.{text_of, text_of_row}
use Rattle.cwr_share.specs.Lines.{lines_of}
use Rattle.linked_works.specs.SubmitterPayees as payees
use Rattle.linked_works.specs.WorksTable as works
use Rattle.starting_tables.specs.Parties.{party_rows}
use Rattle.starting_tables.specs.Works.{works_rows}
use Rattle.starting_files.specs.declared.making.StartingTable.{StartingTable}
use Rattle.starting_files.specs.declared.making.StartingTable.TheVariants.{Works, Parties}
use Rattle.submitted_inputs.specs.Submitted.{AreFiles}

-- the header
abbrev pub header_text : StartingTable → List ℕ
header_text Works = text_of_row works.header
header_text Parties = text_of_row payees.header

-- the rows of a submitter's file, by its lines
abbrev pub rows_in : StartingTable → (submitter : List ℕ) → (lines : List (List ℕ)) → List (List (List ℕ))
rows_in Works submitter lines = works_rows submitter lines
rows_in Parties submitter lines = party_rows submitter lines

-- those of the files of submitters, one behind the other
abbrev pub rows_of_files : StartingTable → (names files : List (List ℕ)) → List (List (List ℕ))
rows_of_files table names files = flat_map (λ e. rows_in table e.0 (lines_of e.1)) (zip names files)

-- The text is a header, and the rows of the files of the submitters with these names, in their order. None has a fault.
pub record IsTableOf (table : StartingTable) (names : List (List ℕ)) (holds : ℕ → List ℕ → Type 0) (text : List ℕ)
    : Type 0 where
  pub files : List (List ℕ)
  pub held : AreFiles holds (length names) files
  pub written : text ≡ header_text table ++ text_of (rows_of_files table names files)
