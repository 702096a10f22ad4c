-- What a shortened table keeps to.
use Rattle.std.proofs.Common.{◌≡◌, ◌∙◌, ◌≤◌, ◌+◌, ◌^◌, ◌+ℤ◌, ℕ, List, IsPermutation, ap, arith, drop, All, length, length-append, length-drop, sum_by, sym, take, take-append-drop, unsigned_abs}
use Rattle.std.proofs.lemmas.List.Sorted.{All-permutation, length_permutation, sum_by-IsPermutation}
use Rattle.std.proofs.lemmas.List.Sums.{sum_by-take-drop}
use Rattle.std.proofs.lemmas.List.Elements.{All-drop, All-take, All-weaker}
use Rattle.line_split.proofs.IntSums.{int_sum_by-append, int_sum_by_size}
use Rattle.line_split.specs.Signs.{int_sum_by}
use Rattle.page_parts.specs.Bars.{Others, Row}
use Rattle.page_parts.specs.Shortened.{AreCountable, IsShortened, kept}
use Rattle.page_parts.proofs.AnyOrder.{int_sum_by-IsPermutation}
use Rattle.page_parts.proofs.RowSums.{amount_of, count_of}

pub still_countable : (rows ordered : List Row) → IsPermutation rows ordered → AreCountable rows → AreCountable ordered
still_countable rows ordered same countable = record {
  few = omega (arith, countable.few, length_permutation rows ordered same);
  counts = All-permutation (λ (row : Row). row.count ≤ 2 ^ 32) rows ordered same countable.counts;
  amounts = All-permutation (λ (row : Row). unsigned_abs row.amount ≤ 2 ^ 100) rows ordered same countable.amounts;
}

pub rows_add_up : (most : ℕ) (rows shown : List Row) (others : Others) → IsShortened most rows shown others → length shown + others.rows ≡ length rows
rows_add_up most rows shown others is =
    let end = kept most (length rows) in
    (λ i. length (is.shown_are i) + (is.others_are i).rows)
    ∙ (sym (length-append (take end is.ordered) (drop end is.ordered))
    ∙ (ap length (take-append-drop end is.ordered) ∙ length_permutation rows is.ordered is.order.same))

pub counts_add_up : (most : ℕ) (rows shown : List Row) (others : Others) → IsShortened most rows shown others → sum_by count_of shown + others.count ≡ sum_by count_of rows
counts_add_up most rows shown others is =
    (λ i. sum_by count_of (is.shown_are i) + (is.others_are i).count)
    ∙ (sum_by-take-drop count_of is.ordered (kept most (length rows)) ∙ sum_by-IsPermutation count_of rows is.ordered is.order.same)

pub amounts_add_up : (most : ℕ) (rows shown : List Row) (others : Others) → IsShortened most rows shown others
    → int_sum_by amount_of shown +ℤ others.amount ≡ int_sum_by amount_of rows
amounts_add_up most rows shown others is =
    let end = kept most (length rows) in
    (λ i. int_sum_by amount_of (is.shown_are i) +ℤ (is.others_are i).amount)
    ∙ (sym (int_sum_by-append amount_of (take end is.ordered) (drop end is.ordered))
    ∙ (ap (int_sum_by amount_of) (take-append-drop end is.ordered) ∙ int_sum_by-IsPermutation amount_of rows is.ordered is.order.same))

-- Where all rows are small, those that are shown can be drawn, and so can what the others come to.
module _ (most : ℕ) (rows shown : List Row) (others : Others) (few : length rows ≤ 65536) (small : All (λ row. unsigned_abs row.amount ≤ 2 ^ 64) rows)
    (is : IsShortened most rows shown others) where
  in_order : All (λ row. unsigned_abs row.amount ≤ 2 ^ 64) is.ordered
  in_order = All-permutation (λ (row : Row). unsigned_abs row.amount ≤ 2 ^ 64) rows is.ordered is.order.same small

  end : ℕ
  end = kept most (length rows)

  pub shown_can_be_drawn : All (λ row. unsigned_abs row.amount ≤ 2 ^ 100) shown
  unfolding end
  shown_can_be_drawn = rw is.shown_are
      (All-weaker (λ (row : Row). unsigned_abs row.amount ≤ 2 ^ 64) (λ (row : Row). unsigned_abs row.amount ≤ 2 ^ 100) (λ row at_most. omega (arith, at_most))
      (take end is.ordered) (All-take (λ (row : Row). unsigned_abs row.amount ≤ 2 ^ 64) end is.ordered in_order))

  pub others_can_be_drawn : unsigned_abs others.amount ≤ 2 ^ 100
  unfolding end
  others_can_be_drawn =
      omega (
        arith,
        few,
        length_permutation rows is.ordered is.order.same,
        length-drop end is.ordered,
        ap (λ (rest : Others). unsigned_abs rest.amount) is.others_are,
        int_sum_by_size amount_of (2 ^ 64) (drop end is.ordered)
            (All-drop (λ (row : Row). unsigned_abs row.amount ≤ 2 ^ 64) end is.ordered in_order),
      )
