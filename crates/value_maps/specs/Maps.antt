-- A table of values as CSV: a header, and a row for each value of an export, which says what it becomes. Rows count
-- from 0, the header's.
use Rattle.std.specs.Prelude.{ℕ, ◌≡◌, ◌∷◌, [], List, Contains, length, codes, map, nat_eq, slice_index_or, Option, Some}
use Rattle.std.specs.Prelude.{None}
use Rattle.std.specs.List.{find}
use Rattle.std.specs.Option.{option_map}
use Rattle.std.specs.Cmp.Lexicographic.{pointwise}
use Rattle.csv_table.specs.Forms.{IsCode, IsPrintable}
use Rattle.csv_table.specs.RowTable as tables
use Rattle.csv_table.specs.RowTable.{TableRules}
use Rattle.line_split.specs.UsageLine.{IsRight}
use Rattle.line_split.specs.declared.TheConstants.{MOST_TEXT_BYTES}
use Rattle.value_maps.specs.declared.kind.Kind.{Kind}
use Rattle.value_maps.specs.declared.kind.Kind.TheVariants.{Works, Territories, Rights}
use Rattle.value_maps.specs.declared.map_fault.MapFault.{MapFault}
use Rattle.value_maps.specs.declared.map_fault.MapFault.TheVariants.{Csv, Work, Territory, Right, Twice, Rows, Memory}
use Rattle.value_maps.specs.declared.value_map.TheConstants.{MOST_VALUES}

-- what a program has in hand of a table: what it is of, and what each value becomes
pub record Values : Type 0 where
  pub kind : Kind
  pub rows : List (List ℕ × List ℕ)

abbrev pub header : List (List ℕ)
header = codes "from" ∷ codes "to" ∷ []

-- the two fields of a row, as they stand
abbrev pub from_of : List (List ℕ) → List ℕ
from_of row = slice_index_or row 0 []

abbrev pub to_of : List (List ℕ) → List ℕ
to_of row = slice_index_or row 1 []

-- what a row says
abbrev pub mapped : List (List ℕ) → List ℕ × List ℕ
mapped row = (from_of row, to_of row)

-- what a value may become: what stands in that column of a usage line
abbrev pub IsValue : Kind → List ℕ → Type 0
IsValue Works field = IsPrintable MOST_TEXT_BYTES field
IsValue Territories field = IsCode field
IsValue Rights field = IsRight field

-- a value has a row
abbrev pub HasRow : List (List ℕ × List ℕ) → (from : List ℕ) → Type 0
HasRow rows from = Contains (map (λ row. row.0) rows) from

-- what a value becomes, where it has a row
abbrev pub value_of : List (List ℕ × List ℕ) → (from : List ℕ) → Option (List ℕ)
value_of rows from = option_map (λ row. row.1) (find (λ row. pointwise nat_eq row.0 from) rows)

-- a row that says what a value becomes, below the earlier ones
pub record IsMapRow (kind : Kind) (earlier : List (List ℕ × List ℕ)) (row : List (List ℕ)) : Type 0 where
  pub whole : length row ≡ length header
  pub to : IsValue kind (to_of row)
  pub new : ¬ HasRow earlier (from_of row)

-- what a row is refused for whose second field is no such value
abbrev pub fault_of : Kind → (row : ℕ) → MapFault
fault_of Works row = Work row
fault_of Territories row = Territory row
fault_of Rights row = Right row

-- a row of two fields becomes no value of this kind
abbrev pub BecomesNone : (kind of : Kind) → (number : ℕ) → List (List ℕ) → (place : ℕ) → Type 0
BecomesNone kind of number row place =
    (kind ≡ of) × (place ≡ number) × (length row ≡ length header) × (¬ IsValue of (to_of row))

-- What a row is refused for, by its number and the earlier rows, where there is room for it: the first thing, in this
-- order, that is wrong with it.
abbrev pub IsFaultOfRow : Kind → List (List ℕ × List ℕ) → ℕ → List (List ℕ) → MapFault → Type 0
IsFaultOfRow kind earlier number row (Csv n) = (n ≡ number) × (¬ (length row ≡ length header))
IsFaultOfRow kind earlier number row (Work n) = BecomesNone kind Works number row n
IsFaultOfRow kind earlier number row (Territory n) = BecomesNone kind Territories number row n
IsFaultOfRow kind earlier number row (Right n) = BecomesNone kind Rights number row n
IsFaultOfRow kind earlier number row (Twice n) =
    (n ≡ number) × (length row ≡ length header) × IsValue kind (to_of row) × HasRow earlier (from_of row)
IsFaultOfRow kind earlier number row Rows = ⊥
IsFaultOfRow kind earlier number row Memory = ⊥

-- what a table asks of its rows
abbrev pub map_rules : Kind → TableRules (List ℕ × List ℕ) MapFault
map_rules kind = record {
  header = header;
  most = MOST_VALUES;
  IsRow = IsMapRow kind;
  item_of = mapped;
  Refuses = IsFaultOfRow kind;
  headless = Csv 0;
  too_many = Rows;
  memory = Memory;
}

-- the rows of a text are this table
abbrev pub IsTableOf : Kind → List (List (List ℕ)) → List (List ℕ × List ℕ) → Type 0
IsTableOf kind = tables.IsTable (map_rules kind)

-- what they are refused for: the header, the first row that is refused, or lack of memory
abbrev pub IsFaultOf : Kind → List (List (List ℕ)) → MapFault → Type 0
IsFaultOf kind = tables.IsFaultOf (map_rules kind)

-- the fault's number
abbrev pub number_of_fault : MapFault → ℕ
number_of_fault (Csv row) = 1
number_of_fault (Work row) = 2
number_of_fault (Territory row) = 3
number_of_fault (Right row) = 4
number_of_fault (Twice row) = 5
number_of_fault Rows = 6
number_of_fault Memory = 7

-- the row's number, where the fault is one row's
abbrev pub place_of_fault : MapFault → Option ℕ
place_of_fault (Csv row) = Some row
place_of_fault (Work row) = Some row
place_of_fault (Territory row) = Some row
place_of_fault (Right row) = Some row
place_of_fault (Twice row) = Some row
place_of_fault Rows = None
place_of_fault Memory = None
