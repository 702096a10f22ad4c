-- What amounts come to does not hang on their order.
use Rattle.std.proofs.Common.{◌≡◌, ◌∙◌, ◌<◌, ◌∷◌, [], ℕ, ℤ, zero, suc, ◌+ℤ◌, Bool, true, false, List, Some, ap, arith, cond, get_or, length, map, refl, set, subst, swap, sym}
use Rattle.std.specs.List.Sorted.{IsPermutation}
use Rattle.std.specs.declared.cmp.Ordering.{Ordering}
use Rattle.std.proofs.lemmas.Int.{ints}
use Rattle.std.proofs.lemmas.List.Sorted.{IsPermutation-keeps, IsPermutation-map}
use Rattle.std.proofs.lemmas.Simd.{map-map}
use Rattle.line_split.proofs.IntSums.{int_sum_by-cons}
use Rattle.line_split.specs.UsageLine.{UsageLine}
use Rattle.usage_totals.specs.Greatest.{AreGreatest, AreTotals, amounts_at, total_if_any, total_of}
use Rattle.usage_totals.specs.SoFar.{amount_at, counted_at, with_amount}
use Rattle.usage_totals.specs.declared.by_key.Hashed.{Hashed}
use Rattle.usage_totals.specs.declared.by_key.Ranked.{Ranked}
use Rattle.usage_totals.specs.declared.total.Total.{Total}

-- What lists with the same head agree on where their rests do, and does not change where two heads
-- change places, a list in another order agrees on.
module _ {X V : Type 0} (of : List X → V) (skip : (x : X) (xs ys : List X) → of xs ≡ of ys → of (x ∷ xs) ≡ of (x ∷ ys)) (turn : (x y : X) (xs : List X) → of (x ∷ y ∷ xs) ≡ of (y ∷ x ∷ xs)) where
  to_head : (xs : List X) (place : ℕ) (x d : X) → place < length xs → of (x ∷ xs) ≡ of (get_or xs place d ∷ set xs place x)
  to_head [] place x d below = absurd (omega (arith, below))
  to_head (y ∷ xs) zero x d below = turn x y xs
  to_head (y ∷ xs) (suc place) x d below =
      turn x y xs
      ∙ skip y (x ∷ xs) (get_or xs place d ∷ set xs place x) (to_head xs place x d (omega (arith, below)))
      ∙ turn y (get_or xs place d) (set xs place x)

  exchanged : (xs : List X) (i j : ℕ) (d : X) → i < length xs → j < length xs → of xs ≡ of (set (set xs i (get_or xs j d)) j (get_or xs i d))
  exchanged [] i j d one other = absurd (omega (arith, one))
  exchanged (x ∷ xs) zero zero d one other = refl
  exchanged (x ∷ xs) zero (suc j) d one other = to_head xs j x d (omega (arith, other))
  exchanged (x ∷ xs) (suc i) zero d one other = to_head xs i x d (omega (arith, one))
  exchanged (x ∷ xs) (suc i) (suc j) d one other =
      skip x xs (set (set xs i (get_or xs j d)) j (get_or xs i d)) (exchanged xs i j d (omega (arith, one)) (omega (arith, other)))

  swapped : (xs : List X) (i j : ℕ) → i < length xs → j < length xs → of xs ≡ of (swap xs i j)
  swapped [] i j one other = absurd (omega (arith, one))
  swapped (x ∷ xs) i j one other = exchanged (x ∷ xs) i j x one other

  in_any_order : (xs ys : List X) → IsPermutation xs ys → of xs ≡ of ys
  in_any_order xs ys same = IsPermutation-keeps xs (λ (l : List X). of xs ≡ of l) refl (λ l i j one other kept. kept ∙ swapped l i j one other) ys same

module _ {K : Type 0} (eq : K → K → Bool) (key : K) where
  abbrev total_at : List (K × ℤ) → Total
  total_at amounts = total_of (amounts_at eq key amounts)

  -- with one amount in front, where it counts
  abbrev total_before : Bool → ℤ → Total → Total
  total_before true amount total = record { lines = suc total.lines; amount = amount +ℤ total.amount }
  total_before false amount total = total

  total_at-cons : (amount : K × ℤ) (amounts : List (K × ℤ)) → total_at (amount ∷ amounts) ≡ total_before (eq key amount.0) amount.1 (total_at amounts)
  total_at-cons amount amounts = by (eq key amount.0)
    where
      by : (b : Bool) → total_of (cond b (amount ∷ amounts_at eq key amounts) (amounts_at eq key amounts)) ≡ total_before b amount.1 (total_at amounts)
      by true = λ i. record { lines = suc (length (amounts_at eq key amounts)); amount = int_sum_by-cons (λ (a : K × ℤ). a.1) amount (amounts_at eq key amounts) i }
      by false = refl

  exchange : (a b c : ℤ) → a +ℤ (b +ℤ c) ≡ b +ℤ (a +ℤ c)
  exchange a b c = omega (arith, ints)

  either_first : (b c : Bool) (one other : ℤ) (total : Total) → total_before b one (total_before c other total) ≡ total_before c other (total_before b one total)
  either_first true true one other total = λ i. record { lines = suc (suc total.lines); amount = exchange one other total.amount i }
  either_first true false one other total = refl
  either_first false true one other total = refl
  either_first false false one other total = refl

  skip : (amount : K × ℤ) (xs ys : List (K × ℤ)) → total_at xs ≡ total_at ys → total_at (amount ∷ xs) ≡ total_at (amount ∷ ys)
  skip amount xs ys same = total_at-cons amount xs ∙ ap (total_before (eq key amount.0) amount.1) same ∙ sym (total_at-cons amount ys)

  turned : (one other : K × ℤ) (amounts : List (K × ℤ)) → total_at (one ∷ other ∷ amounts) ≡ total_before (eq key one.0) one.1 (total_before (eq key other.0) other.1 (total_at amounts))
  turned one other amounts = total_at-cons one (other ∷ amounts) ∙ ap (total_before (eq key one.0) one.1) (total_at-cons other amounts)

  turn : (one other : K × ℤ) (amounts : List (K × ℤ)) → total_at (one ∷ other ∷ amounts) ≡ total_at (other ∷ one ∷ amounts)
  turn one other amounts =
      turned one other amounts ∙ either_first (eq key one.0) (eq key other.0) one.1 other.1 (total_at amounts) ∙ sym (turned other one amounts)

  same_total : (xs ys : List (K × ℤ)) → IsPermutation xs ys → total_at xs ≡ total_at ys
  same_total = in_any_order total_at skip turn

-- the same total, of some amounts or of none
same_if_any : {K : Type 0} (xs ys : List (K × ℤ)) → total_of xs ≡ total_of ys → total_if_any xs ≡ total_if_any ys
same_if_any [] [] same = refl
same_if_any [] (y ∷ ys) same = absurd (omega (arith, ap (λ (t : Total). t.lines) same))
same_if_any (x ∷ xs) [] same = absurd (omega (arith, ap (λ (t : Total). t.lines) same))
same_if_any (x ∷ xs) (y ∷ ys) same = ap Some same

module _ {K : Type 0} (eq : K → K → Bool) (xs ys : List (K × ℤ)) (moved : IsPermutation xs ys) where
  totals_in_any_order : (totals : List (K × Total)) → AreTotals eq ys totals → AreTotals eq xs totals
  totals_in_any_order totals are = record {
    once = are.once;
    each = λ key. are.each key ∙ sym (same_if_any (amounts_at eq key xs) (amounts_at eq key ys) (same_total eq key xs ys moved));
  }

  pub greatest_in_any_order : (cmp : K → K → Ordering) (most : ℕ) (ranked : Ranked K) → AreGreatest eq cmp most ys ranked → AreGreatest eq cmp most xs ranked
  greatest_in_any_order cmp most ranked are =
      record { all = are.all; totals = totals_in_any_order are.all are.totals; greatest = are.greatest; count = are.count }

-- the amounts of lines, by their places in any order
pub amounts_moved : {K : Type 0} (key : UsageLine → K) (amount : UsageLine → ℤ) (lines these : List UsageLine) (places sorted : List Hashed)
    → map (counted_at lines) places ≡ map (with_amount amount) these → IsPermutation places sorted
    → IsPermutation (map (λ (line : UsageLine). (key line, amount line)) these) (map (amount_at key lines) sorted)
amounts_moved {K} key amount lines these places sorted are moved =
    let of : UsageLine × ℤ → K × ℤ = λ e. (key e.0, e.1) in
    let keyed : UsageLine → K × ℤ = λ line. (key line, amount line) in
    let kept : map (amount_at key lines) places ≡ map keyed these =
    sym (map-map of (counted_at lines) places)
    ∙ ap (map of) are
    ∙ map-map of (with_amount amount) these in
    subst (λ (l : List (K × ℤ)). IsPermutation l (map (amount_at key lines) sorted)) kept (IsPermutation-map (amount_at key lines) places sorted moved)
