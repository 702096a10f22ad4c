-- What rows come to from a place on.
use Rattle.std.proofs.Common.{◌≡◌, ◌∙◌, ◌≤◌, ◌<◌, ◌+◌, ◌^◌, ◌+ℤ◌, ℕ, ℤ, Fits, FitsSigned, List, add-one, ap, arith, drop, drop-cons, get_or, length, length-drop, map, of_z, suc, sum_by, to_z, unsigned_abs}
use Rattle.std.proofs.lemmas.Int.{fits_signed_from_abs, ints, to_z-of_z}
use Rattle.std.proofs.lemmas.List.{get_or-map, length-map}
use Rattle.std.proofs.lemmas.List.Elements.{All-drop}
use Rattle.std.proofs.lemmas.List.Sums.{sum_by-drop_more, sum_by-le}
use Rattle.line_split.proofs.IntSums.{int_sum_by-cons, int_sum_by_size}
use Rattle.line_split.specs.Signs.{int_sum_by}
use Rattle.page_parts.specs.Bars.{Row, row_shown}
use Rattle.page_parts.specs.Shortened.{AreCountable}
use Rattle.page_parts.specs.declared.bars.BarRow.{BarRow}
use mir.Syntax.{w128, w64}

abbrev pub count_of : Row → ℕ
count_of row = row.count

abbrev pub amount_of : Row → ℤ
amount_of row = row.amount

abbrev pub counts_from : List BarRow → ℕ → ℕ
counts_from rows place = sum_by count_of (drop place (map row_shown rows))

abbrev pub amounts_from : List BarRow → ℕ → ℤ
amounts_from rows place = int_sum_by amount_of (drop place (map row_shown rows))

-- ---- rows that can be counted and added

module _ (rows : List BarRow) (countable : AreCountable (map row_shown rows)) (place : ℕ) where
  counts_small : counts_from rows place ≤ 2 ^ 48
  counts_small =
      omega (
        arith,
        countable.few,
        length-drop place (map row_shown rows),
        sum_by-le count_of (2 ^ 32) (drop place (map row_shown rows))
            (All-drop (λ row. row.count ≤ 2 ^ 32) place (map row_shown rows) countable.counts),
      )

  amounts_small : unsigned_abs (amounts_from rows place) ≤ 2 ^ 116
  amounts_small =
      omega (
        arith,
        countable.few,
        length-drop place (map row_shown rows),
        int_sum_by_size amount_of (2 ^ 100) (drop place (map row_shown rows))
            (All-drop (λ row. unsigned_abs row.amount ≤ 2 ^ 100) place (map row_shown rows) countable.amounts),
      )

-- ---- a sum that goes on

so_far : (sum left whole : ℤ) → sum +ℤ left ≡ whole → unsigned_abs left ≤ 2 ^ 116 → unsigned_abs whole ≤ 2 ^ 116 → unsigned_abs sum ≤ 2 ^ 117
so_far sum left whole is small all = omega (arith, ints)

handed_on : (sum amount : ℤ) → unsigned_abs sum ≤ 2 ^ 117 → unsigned_abs amount ≤ 2 ^ 100 → to_z w128 (of_z w128 sum) +ℤ to_z w128 (of_z w128 amount) ≡ sum +ℤ amount
handed_on sum amount left right i =
    to_z-of_z w128 sum (fits_signed_from_abs w128 sum (omega (arith, left))) i +ℤ to_z-of_z w128 amount (fits_signed_from_abs w128 amount (omega (arith, right))) i

sum_fits : (sum amount : ℤ) → unsigned_abs sum ≤ 2 ^ 117 → unsigned_abs amount ≤ 2 ^ 100 → unsigned_abs (sum +ℤ amount) < 2 ^ 127
sum_fits sum amount left right = omega (arith, ints)

moved : (sum amount left later whole : ℤ) → left ≡ amount +ℤ later → sum +ℤ left ≡ whole → sum +ℤ amount +ℤ later ≡ whole
moved sum amount left later whole is all = omega (arith, ints)

int_sum_by-drop_more : {X : Type 0} (f : X → ℤ) (xs : List X) (i : ℕ) (d : X) → i < length xs → int_sum_by f (drop i xs) ≡ f (get_or xs i d) +ℤ int_sum_by f (drop (i + 1) xs)
int_sum_by-drop_more f xs i d inside = rw (add-one, drop-cons xs i d) (int_sum_by-cons f (get_or xs i d) (drop (suc i) xs))

-- one row more
module _ (rows : List BarRow) (countable : AreCountable (map row_shown rows)) (from place : ℕ) (d : BarRow) (inside : place < length rows) where
  abbrev row : BarRow
  row = get_or rows place d

  is_shown : get_or (map row_shown rows) place (row_shown d) ≡ row_shown row
  is_shown = get_or-map row_shown rows place d (row_shown d) inside

  is_inside : place < length (map row_shown rows)
  is_inside = omega (arith, length-map rows row_shown)

  counts_left : counts_from rows place ≡ row.count + counts_from rows (place + 1)
  counts_left = sum_by-drop_more count_of (map row_shown rows) place (row_shown d) is_inside ∙ (λ i. count_of (is_shown i) + counts_from rows (place + 1))

  amounts_left : amounts_from rows place ≡ row.amount +ℤ amounts_from rows (place + 1)
  amounts_left = int_sum_by-drop_more amount_of (map row_shown rows) place (row_shown d) is_inside ∙ (λ i. amount_of (is_shown i) +ℤ amounts_from rows (place + 1))

  amount_small : unsigned_abs row.amount ≤ 2 ^ 100
  amount_small = omega (arith, ap (λ (shown : Row). unsigned_abs shown.amount) is_shown, countable.amounts place (row_shown d) is_inside)

  module _ (count : ℕ) (is : count + counts_from rows place ≡ counts_from rows from) where
    pub count_fits : Fits w64 (count + row.count)
    count_fits = omega (arith, is, counts_left, counts_small rows countable from)

    pub count_more : count + row.count + counts_from rows (place + 1) ≡ counts_from rows from
    count_more = omega (arith, is, counts_left)

  module _ (sum : ℤ) (is : sum +ℤ amounts_from rows place ≡ amounts_from rows from) where
    size : unsigned_abs sum ≤ 2 ^ 117
    size = so_far sum (amounts_from rows place) (amounts_from rows from) is (amounts_small rows countable place) (amounts_small rows countable from)

    pub amount_fits : FitsSigned w128 (to_z w128 (of_z w128 sum) +ℤ to_z w128 (of_z w128 row.amount))
    amount_fits = rw (handed_on sum row.amount size amount_small) (fits_signed_from_abs w128 (sum +ℤ row.amount) (sum_fits sum row.amount size amount_small))

    pub amount_more : to_z w128 (of_z w128 (to_z w128 (of_z w128 sum) +ℤ to_z w128 (of_z w128 row.amount))) +ℤ amounts_from rows (place + 1) ≡ amounts_from rows from
    amount_more =
        rw (to_z-of_z w128 (to_z w128 (of_z w128 sum) +ℤ to_z w128 (of_z w128 row.amount)) amount_fits, handed_on sum row.amount size amount_small)
        (moved sum row.amount (amounts_from rows place) (amounts_from rows (place + 1)) (amounts_from rows from) amounts_left is)
