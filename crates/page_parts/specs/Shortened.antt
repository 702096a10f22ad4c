-- Long tables, of which the highest amounts are shown.
use Rattle.std.specs.Prelude.{ℕ, ◌≡◌, ◌+◌, ◌≤◌, ◌^◌, All, List, drop, if◌then◌else◌, length, nat_le}
use Rattle.std.specs.Prelude.{sum_by, take, unsigned_abs}
use Rattle.std.specs.Cmp.Lexicographic.{slice_cmp}
use Rattle.std.specs.List.Sorted.{IsPermutation, IsSorted}
use Rattle.std.specs.Ordering.{int_cmp, nat_cmp, ordering_then}
use Rattle.std.specs.declared.cmp.Ordering.{Ordering}
use Rattle.line_split.specs.Signs.{int_sum_by}
use Rattle.page_parts.specs.Bars.{Others, Row}

-- the higher amount comes first; of equal ones the lesser name, or else the lesser code
abbrev pub by_amount : Row → Row → Ordering
by_amount row other =
    ordering_then (int_cmp other.amount row.amount)
    (ordering_then (slice_cmp nat_cmp row.name other.name) (slice_cmp nat_cmp row.code other.code))

-- these rows, in that order
pub record AreOrdered (rows ordered : List Row) : Type 0 where
  pub same : IsPermutation rows ordered
  pub order : IsSorted by_amount ordered

-- so many are kept: one row alone is not left out
abbrev pub kept : (most rows : ℕ) → ℕ
kept most rows = if nat_le rows (most + 1) then rows else most

-- what rows come to
abbrev pub others_of : List Row → Others
others_of rows = record {
  rows = length rows;
  count = sum_by (λ row. row.count) rows;
  amount = int_sum_by (λ row. row.amount) rows;
}

-- Of all rows these are kept, and the others come to this.
pub record IsShortened (most : ℕ) (rows shown : List Row) (others : Others) : Type 0 where
  pub ordered : List Row
  pub order : AreOrdered rows ordered
  pub shown_are : shown ≡ take (kept most (length rows)) ordered
  pub others_are : others ≡ others_of (drop (kept most (length rows)) ordered)

-- rows that can be counted and added
pub record AreCountable (rows : List Row) : Type 0 where
  pub few : length rows ≤ 65536
  pub counts : All (λ row. row.count ≤ 2 ^ 32) rows
  pub amounts : All (λ row. unsigned_abs row.amount ≤ 2 ^ 100) rows
