-- Quotas, remainders and the units left, over n places whose shares w add up to the base.
use Rattle.std.proofs.Common.{◌≡◌, ℕ, zero, suc, inl, inr, ◌+◌, ◌*◌, ◌-◌, ◌/◌, ◌%◌, ◌<◌, ◌≤◌, Bool, true, false, ltb, refl, sym, ap, ◌∙◌, arith, subst}
use Rattle.std.proofs.Math.Nat.{mul-le-mul_left}
use Rattle.std.proofs.lemmas.Bool.{cases_lt}
use Rattle.std.proofs.lemmas.Bool.Decides.{nat_tests}
use Rattle.line_split.specs.LargestRemainder.{quota_of, remainder_of}
use Rattle.line_split.proofs.SumBelow.{sum_below, bit, same_sums, sum_below-add, sum_below-scale, sum_below-le, sum_below-constant}
use Rattle.line_split.proofs.Ranks.{comes_before_by, comes_before_from, rank, ranks_count}

-- what the quotas and the units left are
abbrev pub quotas : (n amount base : ℕ) (w : ℕ → ℕ) → ℕ
quotas n amount base w = sum_below n (λ i. quota_of amount base (w i))

abbrev pub left : (n amount base : ℕ) (w : ℕ → ℕ) → ℕ
left n amount base w = amount - quotas n amount base w

abbrev pub remainders : (amount base : ℕ) (w : ℕ → ℕ) → ℕ → ℕ
remainders amount base w i = remainder_of amount base (w i)

-- the portion of a place
abbrev pub portion : (n amount base : ℕ) (w : ℕ → ℕ) → ℕ → ℕ
portion n amount base w i =
    quota_of amount base (w i) + bit (ltb (rank n (remainders amount base w) i) (left n amount base w))

quotas_and_remainders : (n amount base : ℕ) (w : ℕ → ℕ) → 0 < base
    → base * quotas n amount base w + sum_below n (remainders amount base w) ≡ amount * sum_below n w
quotas_and_remainders n amount base w some =
    ap (λ (x : ℕ). x + sum_below n (remainders amount base w)) (sym (sum_below-scale n base (λ i. quota_of amount base (w i))))
    ∙ (sym (sum_below-add n (λ i. base * quota_of amount base (w i)) (remainders amount base w))
    ∙ (same_sums n (λ i. base * quota_of amount base (w i) + remainder_of amount base (w i)) (λ i. amount * w i) (λ i _. whole (amount * w i))
    ∙ sum_below-scale n amount w))
  where
    whole : (x : ℕ) → base * (x / base) + x % base ≡ x
    whole x = omega arith

-- The quotas come to no more than the amount.
pub quotas_fit : (n amount base : ℕ) (w : ℕ → ℕ) → 0 < base → sum_below n w ≡ base → quotas n amount base w ≤ amount
quotas_fit n amount base w some whole = at (quotas n amount base w) (sum_below n (remainders amount base w)) (rw whole at (quotas_and_remainders n amount base w some))
  where
    at : (q r : ℕ) → base * q + r ≡ amount * base → q ≤ amount
    at q r e = grind (arith, nat_tests)

-- What is left, in parts of a unit, is what the remainders come to.
left_is_remainders : (n amount base : ℕ) (w : ℕ → ℕ) → 0 < base → sum_below n w ≡ base
    → base * left n amount base w ≡ sum_below n (remainders amount base w)
left_is_remainders n amount base w some whole =
    at (quotas n amount base w) (sum_below n (remainders amount base w)) (left n amount base w)
    (rw whole at (quotas_and_remainders n amount base w some))
    (let fit = quotas_fit n amount base w some whole in omega (arith, fit))
  where
    at : (q r l : ℕ) → base * q + r ≡ amount * base → amount ≡ q + l → base * l ≡ r
    at q r l e f = let e' : base * q + r ≡ (q + l) * base = e ∙ ap (λ (x : ℕ). x * base) f in omega arith

-- Fewer units are left than there are places.
pub left_small : (n amount base : ℕ) (w : ℕ → ℕ) → 0 < base → sum_below n w ≡ base → 0 < n → left n amount base w < n
left_small n amount base w some whole places =
    at (left n amount base w) (rw (sum_below-constant n (base - 1)) at most) (left_is_remainders n amount base w some whole)
  where
    most : sum_below n (remainders amount base w) ≤ sum_below n (λ _. base - 1)
    most = sum_below-le n (remainders amount base w) (λ _. base - 1) (λ i _. small (amount * w i))
      where
        small : (x : ℕ) → x % base ≤ base - 1
        small x = omega arith

    at : (l : ℕ) → sum_below n (remainders amount base w) ≤ n * (base - 1) → base * l ≡ sum_below n (remainders amount base w) → l < n
    at l le e = grind (arith, nat_tests)

-- Units that are left never come to more than the remainders of fewer places.
too_many : (b k units sum : ℕ) → (b + 1) * units ≡ sum → sum ≤ b * k → k < units → ⊥
too_many b k units sum e le lt =
    let more : b * k ≤ b * units = mul-le-mul_left b (omega arith) in
    omega arith

-- A place that has one of the units left has a remainder.
pub unit_needs_remainder : (n amount base : ℕ) (w : ℕ → ℕ) → 0 < base → sum_below n w ≡ base → (i : ℕ)
    → rank n (remainders amount base w) i < left n amount base w → 0 < remainders amount base w i
unit_needs_remainder n amount base w some whole i has = go (remainders amount base w i) refl
  where
    -- where the remainder is 0, each greater one comes before it
    most : remainders amount base w i ≡ 0
        → sum_below n (remainders amount base w) ≤ (base - 1) * rank n (remainders amount base w) i
    most none =
        let scaled = sum_below-scale n (base - 1) (λ j. bit (comes_before_by (remainders amount base w) j i)) in
        let each = sum_below-le n (remainders amount base w) (λ j. (base - 1) * bit (comes_before_by (remainders amount base w) j i))
        (λ j _. one (amount * w j) (comes_before_by (remainders amount base w) j i) (λ more. comes_before_from (remainders amount base w) j i (inl (omega (arith, none, more))))) in
        omega (arith, scaled, each)
      where
        one : (x : ℕ) (b : Bool) → (0 < x % base → b ≡ true) → x % base ≤ (base - 1) * bit b
        one x true h = omega arith
        one x false h = elim (cases_lt 0 (x % base)) [ inl more ↦ let bad : false ≡ true = h more in cc | inr none ↦ omega arith ]

    go : (m : ℕ) → remainders amount base w i ≡ m → 0 < m
    go zero e =
        let up : base ≡ base - 1 + 1 = omega arith in
        let parts = subst (λ (x : ℕ). x * left n amount base w ≡ sum_below n (remainders amount base w)) up (left_is_remainders n amount base w some whole) in
        absurd (too_many _ _ _ _ parts (most e) has)
    go (suc m) e = omega arith

-- The portions add up to the amount.
pub portions_add_up : (n amount base : ℕ) (w : ℕ → ℕ) → 0 < base → sum_below n w ≡ base → 0 < n
    → sum_below n (portion n amount base w) ≡ amount
portions_add_up n amount base w some whole places =
    let small = left_small n amount base w some whole places in
    let units = ranks_count n (remainders amount base w) (left n amount base w) (omega (arith, small)) in
    sum_below-add n (λ i. quota_of amount base (w i)) (λ i. bit (ltb (rank n (remainders amount base w) i) (left n amount base w)))
    ∙ (ap (λ (x : ℕ). quotas n amount base w + x) units ∙ at (quotas_fit n amount base w some whole))
  where
    at : quotas n amount base w ≤ amount → quotas n amount base w + left n amount base w ≡ amount
    at fit = omega arith

-- Each portion is less than a unit away from the exact share.
pub within_quota : (n amount base : ℕ) (w : ℕ → ℕ) → 0 < base → sum_below n w ≡ base → (i : ℕ)
    → (amount * w i < base * portion n amount base w i + base) × (base * portion n amount base w i < amount * w i + base)
within_quota n amount base w some whole i =
    at (amount * w i) (rank n (remainders amount base w) i) (left n amount base w) (unit_needs_remainder n amount base w some whole i)
  where
    at : (x k units : ℕ) → (k < units → 0 < x % base)
        → (x < base * (x / base + bit (ltb k units)) + base) × (base * (x / base + bit (ltb k units)) < x + base)
    at x k units h = elim (cases_lt k units) [
      | inl less ↦
          let one : bit (ltb k units) ≡ 1 = grind (arith, nat_tests) in
          let rest = h less in
          rw one (omega arith, omega arith)
      | inr more ↦
          let none : bit (ltb k units) ≡ 0 = grind (arith, nat_tests) in
          rw none (omega arith, omega arith)
    ]
