-- How the table is kept, so that a look at it takes no search.
use Rattle.std.specs.Prelude.{ℕ, ◌≡◌, ◌<◌, ◌≤◌, ◌+◌, ◌/◌, ◌%◌, ◌==◌, ◌↔◌, Bool, Contains, true, List, [], length, slice_index, slice_index_or}
use Rattle.std.specs.Int.{bit_at}
use Rattle.tis_tree.specs.Territories.{AreTerritories, Encloses, IsKnown, row_at}
use Rattle.tis_tree.specs.declared.TheConstants.{MOST_ROWS}
use Rattle.csv_table.specs.declared.forms.TheConstants.{MOST_CODE}

-- whether a place is in a set of places, 64 to a word
abbrev pub has_bit : List ℕ → ℕ → Bool
has_bit words place = bit_at (slice_index words (place / 64)) (place % 64) == 1

-- the code of the row at a place contains one of the groups
abbrev pub IsAbove : List (ℕ × List ℕ) → (groups : List ℕ) → (place : ℕ) → Type 0
IsAbove table groups place = (group : ℕ) × Contains groups group × (place < length table) × Encloses table (row_at table place).0 group

-- For each code the place of its row, from 1, or 0 where it has none; and for each row the places of the rows whose codes contain its own.
pub record IsCompiled (table : List (ℕ × List ℕ)) (places : List ℕ) (enclosing : List (List ℕ)) : Type 0 where
  pub sound : AreTerritories table
  pub by_code : length places ≡ MOST_CODE + 1
  pub unknown : (code : ℕ) → code ≤ MOST_CODE → slice_index places code ≡ 0 → ¬ IsKnown table code
  pub known : (code place : ℕ) → code ≤ MOST_CODE → slice_index places code ≡ place + 1 → (place < length table) × ((row_at table place).0 ≡ code)
  pub by_row : length enclosing ≡ length table
  pub exact : (place other : ℕ) → place < length table → other < MOST_ROWS
      → (has_bit (slice_index_or enclosing place []) other ≡ true) ↔ ((other < length table) × Encloses table (row_at table other).0 (row_at table place).0)
