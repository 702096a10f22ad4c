-- The table of names of territories as CSV: a header, and a row for each code. Rows count from 0, the header's.
use Rattle.std.specs.Prelude.{ℕ, ◌≡◌, ◌==◌, ◌∷◌, [], List, Contains, length, codes, map, slice_index_or, Option, Some, None}
use Rattle.std.specs.List.{find}
use Rattle.std.specs.Option.{option_map_or}
use Rattle.csv_table.specs.Forms.{IsCode, number_of}
use Rattle.csv_table.specs.RowTable as tables
use Rattle.csv_table.specs.RowTable.{TableRules}
use Rattle.cwr_share.specs.Fields.{trimmed}
use Rattle.document_names.specs.declared.territories.TheConstants.{MOST_TERRITORY_NAMES}
use Rattle.document_names.specs.declared.name_fault.NameFault.{NameFault}
use Rattle.document_names.specs.declared.name_fault.NameFault.TheVariants.{Csv, Code, Twice, Rows, Memory}

abbrev pub header : List (List ℕ)
header = codes "code" ∷ codes "name" ∷ []

-- the code of a row as it stands, and its name without the spaces at its ends
abbrev pub code_field : List (List ℕ) → List ℕ
code_field row = slice_index_or row 0 []

abbrev pub name_field : List (List ℕ) → List ℕ
name_field row = trimmed (slice_index_or row 1 [])

-- what a row names
abbrev pub named : List (List ℕ) → ℕ × List ℕ
named row = (number_of (code_field row), name_field row)

-- the code has a row
abbrev pub HasRow : List (ℕ × List ℕ) → (code : ℕ) → Type 0
HasRow names code = Contains (map (λ row. row.0) names) code

-- the name of the territory with a code, where it has one
abbrev pub name_of_code : List (ℕ × List ℕ) → (code : ℕ) → List ℕ
name_of_code names code = option_map_or (λ row. row.1) (find (λ row. row.0 == code) names) []

-- a row that names a territory, below the rows of the earlier ones
pub record IsNameRow (earlier : List (ℕ × List ℕ)) (row : List (List ℕ)) : Type 0 where
  pub whole : length row ≡ length header
  pub code : IsCode (code_field row)
  pub new : ¬ HasRow earlier (number_of (code_field row))

-- What a row is refused for, by its number and the earlier rows, where there is room for it: the first thing, in this
-- order, that is wrong with it.
abbrev pub IsFaultOfRow : List (ℕ × List ℕ) → ℕ → List (List ℕ) → NameFault → Type 0
IsFaultOfRow earlier number row (Csv n) = (n ≡ number) × (¬ (length row ≡ length header))
IsFaultOfRow earlier number row (Code n) = (n ≡ number) × (length row ≡ length header) × (¬ IsCode (code_field row))
IsFaultOfRow earlier number row (Twice n) =
    (n ≡ number) × (length row ≡ length header) × IsCode (code_field row) × HasRow earlier (number_of (code_field row))
IsFaultOfRow earlier number row Rows = ⊥
IsFaultOfRow earlier number row Memory = ⊥

-- what a table asks of its rows
abbrev pub name_rules : TableRules (ℕ × List ℕ) NameFault
name_rules = record {
  header = header;
  most = MOST_TERRITORY_NAMES;
  IsRow = IsNameRow;
  item_of = named;
  Refuses = IsFaultOfRow;
  headless = Csv 0;
  too_many = Rows;
  memory = Memory;
}

-- the rows are this table
abbrev pub IsTableOf : List (List (List ℕ)) → List (ℕ × List ℕ) → Type 0
IsTableOf = tables.IsTable name_rules

-- what they are refused for: the header, the first row that is refused, or lack of memory
abbrev pub IsFaultOf : List (List (List ℕ)) → NameFault → Type 0
IsFaultOf = tables.IsFaultOf name_rules

-- the fault's number
abbrev pub number_of_fault : NameFault → ℕ
number_of_fault (Csv row) = 1
number_of_fault (Code row) = 2
number_of_fault (Twice row) = 3
number_of_fault Rows = 4
number_of_fault Memory = 5

-- the row's number, where the fault is one row's
abbrev pub place_of_fault : NameFault → Option ℕ
place_of_fault (Csv row) = Some row
place_of_fault (Code row) = Some row
place_of_fault (Twice row) = Some row
place_of_fault Rows = None
place_of_fault Memory = None
