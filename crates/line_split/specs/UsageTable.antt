-- The table of usage lines: a header, and a row for each line. Rows count from 0, the header's.
use Rattle.std.specs.Prelude.{ℕ, ◌≡◌, ◌∷◌, [], List, length, codes, Option, Some, None}
use Rattle.csv_table.specs.RowTable as tables
use Rattle.csv_table.specs.RowTable.{TableRules}
use Rattle.line_split.specs.UsageLine.{HasAmount, HasRight, HasTerritory, HasTexts, UsageLine, line_of}
use Rattle.line_split.specs.declared.TheConstants.{MOST_LINES}
use Rattle.line_split.specs.declared.line_fault.LineFault.{LineFault}
use Rattle.line_split.specs.declared.line_fault.LineFault.TheVariants.{Csv, Fields, Territory, Right, Amount, Lines, Memory}

abbrev pub header : List (List ℕ)
header = codes "usage" ∷ codes "work" ∷ codes "territory" ∷ codes "right" ∷ codes "amount" ∷ []

-- a row that is a line
pub record IsLine (row : List (List ℕ)) : Type 0 where
  pub whole : length row ≡ length header
  pub texts : HasTexts row
  pub territory : HasTerritory row
  pub right : HasRight row
  pub amount : HasAmount row

-- What a row is refused for, by its number, where there is room for it: the first thing, in this order, that is wrong
-- with it.
abbrev pub IsFaultOfRow : (number : ℕ) → List (List ℕ) → LineFault → Type 0
IsFaultOfRow number row (Csv n) = (n ≡ number) × (¬ (length row ≡ length header))
IsFaultOfRow number row (Fields n) = (n ≡ number) × (length row ≡ length header) × (¬ HasTexts row)
IsFaultOfRow number row (Territory n) =
    (n ≡ number) × (length row ≡ length header) × HasTexts row × (¬ HasTerritory row)
IsFaultOfRow number row (Right n) =
    (n ≡ number) × (length row ≡ length header) × HasTexts row × HasTerritory row × (¬ HasRight row)
IsFaultOfRow number row (Amount n) =
    (n ≡ number) × (length row ≡ length header) × HasTexts row × HasTerritory row × HasRight row × (¬ HasAmount row)
IsFaultOfRow number row Lines = ⊥
IsFaultOfRow number row Memory = ⊥

-- what a table asks of its rows, whatever the rows before them
abbrev pub usage_rules : TableRules UsageLine LineFault
usage_rules = record {
  header = header;
  most = MOST_LINES;
  IsRow = λ earlier. IsLine;
  item_of = line_of;
  Refuses = λ earlier. IsFaultOfRow;
  headless = Csv 0;
  too_many = Lines;
  memory = Memory;
}

-- the rows are a table of these lines
abbrev pub IsTableOf : List (List (List ℕ)) → List UsageLine → Type 0
IsTableOf = tables.IsTable usage_rules

-- what they are refused for: the header, the first row that is refused, or lack of memory
abbrev pub IsFaultOf : List (List (List ℕ)) → LineFault → Type 0
IsFaultOf = tables.IsFaultOf usage_rules

-- the rows that are left out, and the lines of those that are read
abbrev pub IsReadWithout : List (List (List ℕ)) → List (List (List ℕ) × LineFault) → List UsageLine → Type 0
IsReadWithout = tables.IsReadWithout usage_rules

-- the fault's number
abbrev pub number_of_fault : LineFault → ℕ
number_of_fault (Csv row) = 1
number_of_fault (Fields row) = 2
number_of_fault (Territory row) = 3
number_of_fault (Right row) = 4
number_of_fault (Amount row) = 5
number_of_fault Lines = 6
number_of_fault Memory = 7

-- the row's number, where the fault is one row's
abbrev pub place_of_fault : LineFault → Option ℕ
place_of_fault (Csv row) = Some row
place_of_fault (Fields row) = Some row
place_of_fault (Territory row) = Some row
place_of_fault (Right row) = Some row
place_of_fault (Amount row) = Some row
place_of_fault Lines = None
place_of_fault Memory = None
