-- The scale of a table's bars.
use Rattle.std.proofs.Common.{◌≤◌, ◌<◌, ◌∷◌, ◌⊎◌, ◌^◌, [], ℕ, ℤ, zero, suc, All, List, arith, get_or, inl, inr, length, map, negsuc, pos, unsigned_abs}
use Rattle.std.proofs.lemmas.List.Elements.{All-head, All-tail}
use Rattle.page_parts.specs.Bars.{AreSmall, Row, Table, above, amounts_of, below, farthest, row_shown, scale_for, table_shown}
use Rattle.page_parts.specs.declared.bars.BarRow.{BarRow}
use Rattle.page_parts.specs.declared.bars.BarTable.{BarTable}
use Rattle.page_parts.specs.declared.bars.Scale.{Scale}

abbrev pub row_amounts : List BarRow → List ℤ
row_amounts rows = map (λ row. row.amount) (map row_shown rows)

pub below_small : (amount : ℤ) → below amount ≤ unsigned_abs amount
below_small (pos n) = omega arith
below_small (negsuc n) = omega arith

pub above_small : (amount : ℤ) → above amount ≤ unsigned_abs amount
above_small (pos n) = omega arith
above_small (negsuc n) = omega arith

abbrev IsSmall : Row → Type 0
IsSmall row = unsigned_abs row.amount ≤ 2 ^ 100

module _ (reach : ℤ → ℕ) where
  rows_small : ((amount : ℤ) → reach amount ≤ unsigned_abs amount) → (rows : List Row) → All IsSmall rows → farthest reach (map (λ row. row.amount) rows) ≤ 2 ^ 100
  rows_small within [] small = omega arith
  rows_small within (row ∷ rows) small =
      omega (arith, within row.amount, All-head IsSmall row rows small, rows_small within rows (All-tail IsSmall row rows small))

  pub table_small : ((amount : ℤ) → reach amount ≤ unsigned_abs amount) → (table : Table) → AreSmall table → farthest reach (amounts_of table) ≤ 2 ^ 100
  table_small within table small = omega (arith, within table.others.amount, small.others, rows_small within table.rows small.rows)

  reach_of_row : (rows : List BarRow) (k : ℕ) (d : BarRow) → k < length rows → reach (get_or rows k d).amount ≤ farthest reach (row_amounts rows)
  reach_of_row [] k d inside = absurd (omega (arith, inside))
  reach_of_row (row ∷ rows) zero d inside = omega arith
  reach_of_row (row ∷ rows) (suc k) d inside = omega (arith, reach_of_row rows k d (omega (arith, inside)))

-- an amount is within a scale that has room for it
reaches_within : (amount : ℤ) (scale : Scale) → below amount ≤ scale.below → above amount ≤ scale.above → (unsigned_abs amount ≤ scale.below) ⊎ (unsigned_abs amount ≤ scale.above)
reaches_within (pos n) scale left right = inr (omega (arith, right))
reaches_within (negsuc n) scale left right = inl (omega (arith, left))

-- that of a table has room for the amount of each row
pub row_within : (table : BarTable) (k : ℕ) (d : BarRow) → k < length table.rows.now
    → (unsigned_abs (get_or table.rows.now k d).amount ≤ (scale_for (table_shown table)).below)
    ⊎ (unsigned_abs (get_or table.rows.now k d).amount ≤ (scale_for (table_shown table)).above)
row_within table k d inside =
    reaches_within (get_or table.rows.now k d).amount (scale_for (table_shown table)) (omega (arith, reach_of_row below table.rows.now k d inside))
    (omega (arith, reach_of_row above table.rows.now k d inside))
