-- A table of territories (TIS): rows of a numeric code and the codes of its groups.
use Rattle.std.specs.Prelude.{ℕ, ◌≡◌, ◌<◌, ◌≤◌, ◌==◌, ◌||◌, ◌∷◌, Bool, false, List, All, Contains, [], length, map, reverse, slice_index_or, take, if◌then◌else◌}
use Rattle.std.specs.List.{AllPairs, list_any}
use Rattle.tis_tree.specs.declared.TheConstants.{MOST_ROWS}
use Rattle.csv_table.specs.declared.forms.TheConstants.{MOST_CODE}

-- the code has a row
abbrev pub IsKnown : List (ℕ × List ℕ) → ℕ → Type 0
IsKnown table code = Contains (map (λ row. row.0) table) code

-- the row of a land names the group
abbrev pub IsGroupOf : List (ℕ × List ℕ) → (group land : ℕ) → Type 0
IsGroupOf table group land = (groups : List ℕ) × Contains table (land, groups) × Contains groups group

-- A group contains a land: it is the land itself, which has a row, or it contains a group of the land.
pub data Encloses (table : List (ℕ × List ℕ)) (group : ℕ) : ℕ → Type 0 where
  itself : IsKnown table group → Encloses table group group
  through : (land between : ℕ) → IsGroupOf table between land → Encloses table group between → Encloses table group land

-- The same, worked out by looking from the last row back: a land's groups have rows before its own.
unfoldable pub encloses_backwards : List (ℕ × List ℕ) → (group land : ℕ) → Bool
encloses_backwards [] group land = false
encloses_backwards (row ∷ before) group land =
    if row.0 == land then (group == land) || list_any (λ between. encloses_backwards before group between) row.1
    else encloses_backwards before group land

abbrev pub encloses : List (ℕ × List ℕ) → (group land : ℕ) → Bool
encloses table group land = encloses_backwards (reverse table) group land

-- the row at a place
abbrev pub row_at : List (ℕ × List ℕ) → ℕ → ℕ × List ℕ
row_at table place = slice_index_or table place (0, [])

-- at most 2048 rows, no two of one code, and each group of a row has an earlier one
pub record AreTerritories (table : List (ℕ × List ℕ)) : Type 0 where
  pub few : length table ≤ MOST_ROWS
  pub codes : All (λ row. (0 < row.0) × (row.0 ≤ MOST_CODE)) table
  pub once : AllPairs (λ row later. ¬ (row.0 ≡ later.0)) table
  pub earlier : (place group : ℕ) → place < length table → Contains (row_at table place).1 group → IsKnown (take place table) group
