-- The table of territories as CSV: a header, and a row for each code. Rows count from 0, the header's.
use Rattle.std.specs.Prelude.{ℕ, ◌≡◌, ◌==◌, ◌∷◌, [], List, All, Option, Some, None}
use Rattle.std.specs.Prelude.{codes, length, map, not, slice_index_or}
use Rattle.std.specs.List.{filter}
use Rattle.csv_table.specs.Forms.{IsCode, number_of}
use Rattle.csv_table.specs.Pieces.{pieces_at}
use Rattle.csv_table.specs.RowTable as tables
use Rattle.csv_table.specs.RowTable.{TableRules}
use Rattle.tis_tree.specs.Territories.{IsKnown}
use Rattle.tis_tree.specs.declared.TheConstants.{MOST_ROWS}
use Rattle.tis_tree.specs.declared.tis_fault.TisFault.{TisFault}
use Rattle.tis_tree.specs.declared.tis_fault.TisFault.TheVariants.{Csv, Code, Twice, Group, Rows, Memory}

abbrev pub header : List (List ℕ)
header = codes "code" ∷ codes "groups" ∷ []

-- the words of a text, with one or more spaces between them and any at its ends
abbrev pub words_of : List ℕ → List (List ℕ)
words_of text = filter (λ piece. not (length piece == 0)) (pieces_at 32 text)

-- the two fields of a row
abbrev pub code_field : List (List ℕ) → List ℕ
code_field row = slice_index_or row 0 []

abbrev pub groups_field : List (List ℕ) → List ℕ
groups_field row = slice_index_or row 1 []

-- the code and the groups that a row names; whether one is named twice makes no difference to what contains what
abbrev pub territory_of : List (List ℕ) → ℕ × List ℕ
territory_of row = (number_of (code_field row), map number_of (words_of (groups_field row)))

abbrev pub HasCode : List (List ℕ) → Type 0
HasCode row = IsCode (code_field row)

-- the word is the code of an earlier row
abbrev pub IsGroup : List (ℕ × List ℕ) → List ℕ → Type 0
IsGroup earlier word = IsCode word × IsKnown earlier (number_of word)

-- each group is a code of an earlier row
abbrev pub HasGroups : List (ℕ × List ℕ) → List (List ℕ) → Type 0
HasGroups earlier row = All (IsGroup earlier) (words_of (groups_field row))

-- a row that is a territory, below the rows of the earlier ones
pub record IsTerritory (earlier : List (ℕ × List ℕ)) (row : List (List ℕ)) : Type 0 where
  pub whole : length row ≡ length header
  pub code : HasCode row
  pub new : ¬ IsKnown earlier (number_of (code_field row))
  pub groups : HasGroups earlier row

-- What a row is refused for, by its number and the earlier rows, where there is room for it: the first thing, in this
-- order, that is wrong with it.
abbrev pub IsFaultOfRow : List (ℕ × List ℕ) → ℕ → List (List ℕ) → TisFault → Type 0
IsFaultOfRow earlier number row (Csv n) = (n ≡ number) × (¬ (length row ≡ length header))
IsFaultOfRow earlier number row (Code n) = (n ≡ number) × (length row ≡ length header) × (¬ HasCode row)
IsFaultOfRow earlier number row (Twice n) =
    (n ≡ number) × (length row ≡ length header) × HasCode row × IsKnown earlier (number_of (code_field row))
IsFaultOfRow earlier number row (Group n) =
    (n ≡ number) × (length row ≡ length header) × HasCode row × (¬ IsKnown earlier (number_of (code_field row)))
    × (¬ HasGroups earlier row)
IsFaultOfRow earlier number row Rows = ⊥
IsFaultOfRow earlier number row Memory = ⊥

-- what a table asks of its rows
abbrev pub territory_rules : TableRules (ℕ × List ℕ) TisFault
territory_rules = record {
  header = header;
  most = MOST_ROWS;
  IsRow = IsTerritory;
  item_of = territory_of;
  Refuses = IsFaultOfRow;
  headless = Csv 0;
  too_many = Rows;
  memory = Memory;
}

-- the rows are this table
abbrev pub IsTableOf : List (List (List ℕ)) → List (ℕ × List ℕ) → Type 0
IsTableOf = tables.IsTable territory_rules

-- what they are refused for: the header, the first row that is refused, or lack of memory
abbrev pub IsFaultOf : List (List (List ℕ)) → TisFault → Type 0
IsFaultOf = tables.IsFaultOf territory_rules

-- the rows that are left out, and the table of those that are read
abbrev pub IsReadWithout : List (List (List ℕ)) → List (List (List ℕ) × TisFault) → List (ℕ × List ℕ) → Type 0
IsReadWithout = tables.IsReadWithout territory_rules

-- the fault's number
abbrev pub number_of_fault : TisFault → ℕ
number_of_fault (Csv row) = 1
number_of_fault (Code row) = 2
number_of_fault (Twice row) = 3
number_of_fault (Group row) = 4
number_of_fault Rows = 5
number_of_fault Memory = 6

-- the row's number, where the fault is one row's
abbrev pub place_of_fault : TisFault → Option ℕ
place_of_fault (Csv row) = Some row
place_of_fault (Code row) = Some row
place_of_fault (Twice row) = Some row
place_of_fault (Group row) = Some row
place_of_fault Rows = None
place_of_fault Memory = None
