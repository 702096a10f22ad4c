-- Words that say where a value stands.
use Rattle.std.specs.Prelude.{ℕ, ◌≡◌, ◌⊎◌, ◌<◌, ◌-◌, ◌∷◌, [], IfSome, List, None, Option, Some, drop, length, slice_index_or}
use Rattle.csv_table.specs.Forms.{IsNumber, number_of}
use Rattle.sales_lines.specs.declared.column_fault.ColumnFault.{ColumnFault}
use Rattle.sales_lines.specs.declared.column_fault.ColumnFault.TheVariants as fault
use Rattle.sales_lines.specs.declared.columns.TheConstants.{MOST_COLUMNS}
use Rattle.sales_lines.specs.declared.source.Source.{Source}
use Rattle.sales_lines.specs.declared.source.Source.TheVariants.{Place, Text}

-- `#` and a number, which counts fields from 1
pub record IsPlaceWord (word : List ℕ) : Type 0 where
  pub digits : List ℕ
  pub is : word ≡ 35 ∷ digits
  pub number : IsNumber MOST_COLUMNS digits
  pub some : 0 < number_of digits

-- the place that it says, from 0
abbrev pub place_of : (word : List ℕ) → ℕ
place_of word = number_of (drop 1 word) - 1

-- `=` and a text
abbrev pub IsTextWord : (word : List ℕ) → Type 0
IsTextWord word = (text : List ℕ) × (word ≡ 61 ∷ text)

-- a field of a header has this name
abbrev pub IsNamed : (header : List (List ℕ)) → (name : List ℕ) → (place : ℕ) → Type 0
IsNamed header name place = (place < length header) × (slice_index_or header place [] ≡ name)

-- and no other has it
abbrev pub IsOnlyNamed : (header : List (List ℕ)) → (name : List ℕ) → (place : ℕ) → Type 0
IsOnlyNamed header name place =
    IsNamed header name place × ((other : ℕ) → IsNamed header name other → other ≡ place)

-- a word is neither a place nor a text, and so a name
abbrev pub IsNameWord : (word : List ℕ) → Type 0
IsNameWord word = (¬ IsPlaceWord word) × (¬ IsTextWord word)

-- a header has a field at this place, if there is one
abbrev pub IsInHeader : (header : Option (List (List ℕ))) → (place : ℕ) → Type 0
IsInHeader header place = IfSome header (λ fields. place < length fields)

-- where a value stands by a word
abbrev pub IsSourceOf : (header : Option (List (List ℕ))) → (word : List ℕ) → Source → Type 0
IsSourceOf header word (Place place) = (IsPlaceWord word × (place ≡ place_of word) × IsInHeader header place)
    ⊎ (IsNameWord word × (fields : List (List ℕ)) × (header ≡ Some fields) × IsOnlyNamed fields word place)
IsSourceOf header word (Text text) = (¬ IsPlaceWord word) × (word ≡ 61 ∷ text.items)

-- no field has a name, or more than one
abbrev pub IsNotOne : (fields : List (List ℕ)) → (name : List ℕ) → ColumnFault → Type 0
IsNotOne fields name fault.NoHeader = ⊥
IsNotOne fields name fault.None = (place : ℕ) → ¬ IsNamed fields name place
IsNotOne fields name fault.Many =
    (one : ℕ) × (other : ℕ) × (one < other) × IsNamed fields name one × IsNamed fields name other
IsNotOne fields name fault.Memory = ⊥

-- why a name is that of no column
abbrev pub IsNoColumn : (header : Option (List (List ℕ))) → (name : List ℕ) → ColumnFault → Type 0
IsNoColumn None name told = told ≡ fault.NoHeader
IsNoColumn (Some fields) name told = IsNotOne fields name told

-- it says a place that the header does not have
abbrev pub IsBeyond : (header : Option (List (List ℕ))) → (word : List ℕ) → Type 0
IsBeyond header word = IsPlaceWord word × (¬ IsInHeader header (place_of word))

-- why a word says nothing; memory may run out at a text
abbrev pub IsWordFault : (header : Option (List (List ℕ))) → (word : List ℕ) → ColumnFault → Type 0
IsWordFault header word told = ((told ≡ fault.Memory) × IsTextWord word)
    ⊎ ((told ≡ fault.None) × IsBeyond header word) ⊎ (IsNameWord word × IsNoColumn header word told)
