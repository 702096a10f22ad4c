-- Differences are written as rows.
use Rattle.std.proofs.Common.{◌≡◌, ◌∙◌, ◌+◌, ◌*◌, ◌≤◌, ◌<◌, ◌^◌, ◌+ℤ◌, ◌++◌, ◌∷◌, [], ℕ, ℤ, List, length, map, ap, refl, sym, unsigned_abs, arith, append_assoc, inl, inr}
use Rattle.std.specs.Prelude.{◌/◌, ◌%◌, flat_map, replicate}
use Rattle.std.proofs.lemmas.Int.{ints}
use Rattle.std.proofs.lemmas.List.Elements.{All-head}
use Rattle.std.proofs.lemmas.List.{append-nil, length-append, map-append}
use Rattle.csv_table.specs.Written.{text_of, text_of_row}
use Rattle.line_split.specs.Signs.{with_sign_of}
use Rattle.line_split.proofs.IntSums.{int_sum_by-cons}
use Rattle.merge_statements.specs.SoFar.{total_of_portions}
use Rattle.merge_statements.specs.Statements.{Portion, Rest}
use Rattle.merge_statements.proofs.Passing.{elements_more}
use Rattle.adjust_statements.specs.Adjusted.{as_rests}
use Rattle.adjust_statements.specs.Differences.{row_holds, rows_of, sizes_of}
use Rattle.adjust_statements.specs.SoFar.{named_row}
use Rattle.adjust_statements.proofs.DifferenceLemmas.{all_within, left_is, totals_small}

module _ (kind name : List ℕ) where
  -- the rows of portions
  abbrev pub text_for : List Portion → List ℕ
  text_for portions = text_of (map (named_row kind) (as_rests name portions))

  pub text_for-append : (portions more : List Portion) → text_for portions ++ text_for more ≡ text_for (portions ++ more)
  text_for-append portions more =
      elements_more (named_row kind) (as_rests name portions) (as_rests name more)
      ∙ ap (λ (rows : List Rest). text_of (map (named_row kind) rows)) (sym (map-append (λ (p : Portion). record { reason = name; usage = p.usage; amount = p.amount }) portions more))

  -- the rows of sizes of one use
  abbrev pub sized : (usage : List ℕ) → ℤ → List ℕ → List Portion
  sized usage sum sizes = map (λ size. record { usage = usage; amount = with_sign_of sum size }) sizes

  -- a row more
  pub row_pushed : (usage : List ℕ) (sum : ℤ) (sizes : List ℕ) (size : ℕ) (first before after : List ℕ) → before ≡ first ++ text_for (sized usage sum sizes)
      → after ≡ before ++ text_of_row (named_row kind (record { reason = name; usage = usage; amount = with_sign_of sum size })) → after ≡ first ++ text_for (sized usage sum (sizes ++ size ∷ []))
  row_pushed usage sum sizes size first before after was is =
      let row = text_of_row (named_row kind (record { reason = name; usage = usage; amount = with_sign_of sum size })) in
      is
      ∙ (λ i. was i ++ row)
      ∙ append_assoc first (text_for (sized usage sum sizes)) row
      ∙ ap (λ (l : List ℕ). first ++ l) (ap (λ (l : List ℕ). text_for (sized usage sum sizes) ++ l) (sym (append-nil row))
      ∙ text_for-append (sized usage sum sizes) (sized usage sum (size ∷ []))
      ∙ ap text_for (sym (map-append (λ (s : ℕ). record { usage = usage; amount = with_sign_of sum s }) sizes (size ∷ []))))

  -- rows taken from the front
  pub rows_taken : (first all more : List ℕ) (sum : Portion) (sums : List Portion) → first ++ text_for (flat_map rows_of (sum ∷ sums)) ≡ all
      → more ≡ first ++ text_for (rows_of sum) → more ++ text_for (flat_map rows_of sums) ≡ all
  rows_taken first all more sum sums was is =
      (λ i. is i ++ text_for (flat_map rows_of sums))
      ∙ append_assoc first (text_for (rows_of sum)) (text_for (flat_map rows_of sums))
      ∙ ap (λ (l : List ℕ). first ++ l) (text_for-append (rows_of sum) (flat_map rows_of sums))
      ∙ was

-- full rows, and what is left
pub sizes_without : (size : ℕ) → size % row_holds ≡ 0 → sizes_of size ≡ replicate (size / row_holds) row_holds
sizes_without size none = elim (left_is (size % row_holds)) [
  | inl (zero, is) ↦ ap (λ (l : List ℕ). replicate (size / row_holds) row_holds ++ l) is ∙ append-nil (replicate (size / row_holds) row_holds)
  | inr (some, is) ↦ absurd (omega (arith, none, some))
]

pub sizes_with : (size : ℕ) → ¬ (size % row_holds ≡ 0) → sizes_of size ≡ replicate (size / row_holds) row_holds ++ size % row_holds ∷ []
sizes_with size some = elim (left_is (size % row_holds)) [
  | inl (zero, is) ↦ absurd (some zero)
  | inr (more, is) ↦ ap (λ (l : List ℕ). replicate (size / row_holds) row_holds ++ l) is
]

-- the rows of the first uses were added, and the others are left
pub record TakenSoFar (kind name : List ℕ) (all : List Portion) (text : List ℕ) (count : ℕ) (total : ℤ) (sums : List Portion) (done : ℕ) : Type 0 where
  pub rows : text ++ text_for kind name (flat_map rows_of sums) ≡ text_for kind name (flat_map rows_of all)
  pub counted : count + length (flat_map rows_of sums) ≡ length (flat_map rows_of all)
  pub comes : total +ℤ total_of_portions sums ≡ total_of_portions all
  pub left : length sums + done ≡ length all

pub use_taken : (kind name : List ℕ) (all : List Portion) (text more : List ℕ) (count own both : ℕ) (total new : ℤ) (sum : Portion) (sums : List Portion) (done : ℕ)
    → TakenSoFar kind name all text count total (sum ∷ sums) done → more ≡ text ++ text_for kind name (rows_of sum) → own ≡ length (rows_of sum) → both ≡ count + own → new ≡ total +ℤ sum.amount
    → TakenSoFar kind name all more both new sums (done + 1)
use_taken kind name all text more count own both total new sum sums done was is few grown comes = record {
  rows = rows_taken kind name text (text_for kind name (flat_map rows_of all)) more sum sums was.rows is;
  counted = omega (arith, was.counted, few, grown, length-append (rows_of sum) (flat_map rows_of sums));
  comes = (λ i. comes i +ℤ total_of_portions sums) ∙ (joined total sum.amount (total_of_portions sums) ∙ (ap (λ (z : ℤ). total +ℤ z) (sym (int_sum_by-cons (λ (p : Portion). p.amount) sum sums)) ∙ was.comes));
  left = omega (arith, was.left);
}
  where
    joined : (a b c : ℤ) → (a +ℤ b) +ℤ c ≡ a +ℤ (b +ℤ c)
    joined a b c = omega (arith, ints)

pub none_left : (kind name : List ℕ) (all : List Portion) (text : List ℕ) (count : ℕ) (total : ℤ) (sums : List Portion) (done : ℕ) → TakenSoFar kind name all text count total sums done → sums ≡ [] → done < length all → ⊥
none_left kind name all text count total sums done was none more = omega (arith, was.left, ap length none, more)

-- sums stay small
pub total_small : (kind name : List ℕ) (all : List Portion) (text : List ℕ) (count : ℕ) (total : ℤ) (sums : List Portion) (done : ℕ) → TakenSoFar kind name all text count total sums done
    → length (flat_map rows_of all) ≤ 10 ^ 18 → unsigned_abs total ≤ 10 ^ 36
total_small kind name all text count total sums done was few =
    let whole = totals_small all in
    let rest = totals_small sums in
    let apart : unsigned_abs total ≤ unsigned_abs (total_of_portions all) + unsigned_abs (total_of_portions sums) = omega (arith, ints, was.comes) in
    omega (arith, apart, whole, rest, few, was.counted)

pub first_small : (kind name : List ℕ) (all : List Portion) (text : List ℕ) (count : ℕ) (total : ℤ) (sums : List Portion) (done : ℕ) (first : Portion) (rest : List Portion)
    → TakenSoFar kind name all text count total sums done → sums ≡ first ∷ rest → length (flat_map rows_of all) ≤ 10 ^ 18 → unsigned_abs first.amount ≤ 10 ^ 30
first_small kind name all text count total sums done first rest was is few =
    let most = all_within (first ∷ rest) (10 ^ 18) (omega (arith, was.counted, few, ap (λ (l : List Portion). length (flat_map rows_of l)) is)) in
    omega (arith, All-head (λ (d : Portion). unsigned_abs d.amount ≤ 1000000000000 * 10 ^ 18) first rest most)

-- and in the end none are left
pub all_taken : (kind name : List ℕ) (all : List Portion) (text : List ℕ) (count : ℕ) (total : ℤ) (sums : List Portion) (done : ℕ) → TakenSoFar kind name all text count total sums done
    → length all ≤ done → sums ≡ []
all_taken kind name all text count total [] done was ended = refl
all_taken kind name all text count total (sum ∷ sums) done was ended = absurd (omega (arith, was.left, ended))
