-- The portions are a fair split, and no other list is.
use Rattle.std.proofs.Common.{◌≡◌, ℕ, ◌+◌, ◌*◌, ◌-◌, ◌/◌, ◌%◌, ◌<◌, ◌≤◌, inl, inr, Bool, true, ltb, List, length, map, get_or, sum_by, sym, ap, ◌∙◌, arith}
use Rattle.std.proofs.lemmas.Bool.Decides.{nat_tests}
use Rattle.std.proofs.Math.Nat.{mul-le-mul_left}
use Rattle.std.proofs.lemmas.Bool.{cases_lt, ltb-true, lt-ltb}
use Rattle.std.proofs.lemmas.List.{get_or-map, length-map, same_lists, length_push}
use Rattle.std.proofs.lemmas.List.Sums.{sum_by_push}
use Rattle.line_split.specs.Claims.{total_of, counted_claims, base_of, participants_of}
use Rattle.line_split.specs.LargestRemainder.{quota_of, portions_among, portions_of}
use Rattle.line_split.specs.FairSplit.{value_at, StaysWithinQuota, GivesByRemainder, IsFairSplitOfSize}
use Rattle.line_split.proofs.SumBelow.{sum_below, bit, same_sums, sum_below-add}
use Rattle.line_split.proofs.Ranks.{comes_before_by, comes_before_means, comes_before_from, rank, rank_rises, first_k, count_below}
use Rattle.line_split.proofs.Quotas.{quotas, left, remainders, portion, portions_add_up, within_quota}
use Rattle.line_split.proofs.Places.{number_at_is, sum_by_number, length-portions, portion_at}

pub base_positive : (claims : List (ℕ × ℕ)) → 0 < base_of claims
base_positive claims = omega arith

-- The participants' shares add up to the base: over the list, and by place.
pub shares_sum : (claims : List (ℕ × ℕ)) → sum_by (λ p. p.1) (participants_of claims) ≡ base_of claims
shares_sum claims = sum_by_push (λ e. e.1) (counted_claims claims) _ ∙ omega arith

pub shares_are_base : (claims : List (ℕ × ℕ))
    → sum_below (length (participants_of claims)) (value_at (participants_of claims)) ≡ base_of claims
shares_are_base claims =
    sym (sum_by_number (λ x. x) (participants_of claims)) ∙ shares_sum claims

pub some_place : (claims : List (ℕ × ℕ)) → 0 < length (participants_of claims)
some_place claims = omega (arith, length_push (counted_claims claims) (0, base_of claims - total_of (counted_claims claims)))

module _ (amount base : ℕ) (participants : List (ℕ × ℕ)) (some : 0 < base)
    (whole : sum_below (length participants) (value_at participants) ≡ base) where
  -- a portion, by place
  pub value_at-portions : (i : ℕ) → i < length participants
      → value_at (portions_among amount base participants) i ≡ portion (length participants) amount base (value_at participants) i
  value_at-portions i lt =
      sym (number_at_is (portions_among amount base participants) i (0, 0) (rw (length-portions amount base participants) lt))
      ∙ ap (λ (e : ℕ × ℕ). e.1) (portion_at amount base participants i (0, 0) lt)

  accounts-portions : map (λ e. e.0) (portions_among amount base participants) ≡ map (λ p. p.0) participants
  accounts-portions =
      same_lists (map (λ e. e.0) (portions_among amount base participants)) (map (λ p. p.0) participants)
      (length-map _ _ ∙ (length-portions amount base participants ∙ sym (length-map participants (λ p. p.0))))
      (λ k d lt.
      let in_portions = rw (length-map (portions_among amount base participants) (λ e. e.0)) at lt in
      let in_list = rw (length-portions amount base participants) at in_portions in
      get_or-map (λ e. e.0) (portions_among amount base participants) k (0, 0) d in_portions
      ∙ (ap (λ (e : ℕ × ℕ). e.0) (portion_at amount base participants k (0, 0) in_list)
      ∙ sym (get_or-map (λ p. p.0) participants k (0, 0) d in_list)))

  pub portions-sum : 0 < length participants → sum_by (λ e. e.1) (portions_among amount base participants) ≡ amount
  portions-sum places =
      sum_by_number (λ x. x) (portions_among amount base participants)
      ∙ (ap (λ (m : ℕ). sum_below m (value_at (portions_among amount base participants))) (length-portions amount base participants)
      ∙ (same_sums (length participants) (value_at (portions_among amount base participants)) (portion (length participants) amount base (value_at participants)) value_at-portions
      ∙ portions_add_up (length participants) amount base (value_at participants) some whole places))

  pub portions-within : StaysWithinQuota amount base participants (portions_among amount base participants)
  portions-within i lt = rw (value_at-portions i lt) (within_quota (length participants) amount base (value_at participants) some whole i)

  pub portions-by_remainder : GivesByRemainder amount base participants (portions_among amount base participants)
  portions-by_remainder i j in_i in_j first has =
      rw (value_at-portions i in_i) (
      let up = rank_rises (length participants) (remainders amount base (value_at participants)) i j in_i (comes_before_from (remainders amount base (value_at participants)) i j first) in
      up_with (quota_of amount base (value_at participants i)) (quota_of amount base (value_at participants j))
      (rank (length participants) (remainders amount base (value_at participants)) i) (rank (length participants) (remainders amount base (value_at participants)) j)
      (left (length participants) amount base (value_at participants)) up (rw (value_at-portions j in_j) at has)
      )
    where
      up_with : (q q' k k' units : ℕ) → k < k' → q' < q' + bit (ltb k' units) → q < q + bit (ltb k units)
      up_with q q' k k' units up has = elim (cases_lt k' units) [
        | inl less ↦
            let one : bit (ltb k units) ≡ 1 = grind (arith, nat_tests) in
            rw one (omega arith)
        | inr more ↦
            let none : bit (ltb k' units) ≡ 0 = grind (arith, nat_tests) in
            absurd (omega (arith, none))
      ]

-- The portions by the claims are fair.
pub portions_are_fair : (amount : ℕ) (claims : List (ℕ × ℕ)) → IsFairSplitOfSize amount claims (portions_of amount claims)
portions_are_fair amount claims = record {
  same_accounts = accounts-portions amount (base_of claims) (participants_of claims) (base_positive claims) (shares_are_base claims);
  adds_up = portions-sum amount (base_of claims) (participants_of claims) (base_positive claims) (shares_are_base claims) (some_place claims);
  within_quota = portions-within amount (base_of claims) (participants_of claims) (base_positive claims) (shares_are_base claims);
  by_remainder = portions-by_remainder amount (base_of claims) (participants_of claims) (base_positive claims) (shares_are_base claims);
}

below_two : (base q r p : ℕ) → base * p < base * q + r + base → r < base → p < q + 2
below_two base q r p h small = elim (cases_lt p (q + 2)) [
  | inl less ↦ less
  | inr more ↦
      let far : base * (q + 2) ≤ base * p = mul-le-mul_left base more in
      absurd (omega arith)
]

below_one : (base q r p : ℕ) → base * q + r < base * p + base → q < p + 1
below_one base q r p h = elim (cases_lt q (p + 1)) [
  | inl less ↦ less
  | inr more ↦
      let far : base * (p + 1) ≤ base * q = mul-le-mul_left base more in
      absurd (omega arith)
]

-- a number within a unit of the exact share is the quota, or one more
quota_or_more : (x base p : ℕ) → 0 < base → x < base * p + base → base * p < x + base → p ≡ x / base + bit (ltb (x / base) p)
quota_or_more x base p some low high =
    let least : x / base < p + 1 = below_one base (x / base) (x % base) p (omega arith) in
    let most : p < x / base + 2 = below_two base (x / base) (x % base) p (omega arith) (omega arith) in
    at (x / base) least most
  where
    at : (q : ℕ) → q < p + 1 → p < q + 2 → p ≡ q + bit (ltb q p)
    at q least most = elim (cases_lt q p) [
      | inl less ↦ let one : bit (ltb q p) ≡ 1 = grind (arith, nat_tests) in omega (arith, one)
      | inr more ↦ let none : bit (ltb q p) ≡ 0 = grind (arith, nat_tests) in omega (arith, none)
    ]

module _ (amount base : ℕ) (participants portions : List (ℕ × ℕ)) where
  -- whether a place has a unit more than its quota
  abbrev has_unit : ℕ → Bool
  has_unit k = ltb (quota_of amount base (value_at participants k)) (value_at portions k)

  -- its quota, and the unit where it has one
  abbrev rounded : ℕ → ℕ
  rounded k = quota_of amount base (value_at participants k) + bit (has_unit k)

  -- A fair split of an amount gives each place its portion.
  fair_at : 0 < base → sum_below (length participants) (value_at participants) ≡ base → length portions ≡ length participants
      → sum_by (λ e. e.1) portions ≡ amount → StaysWithinQuota amount base participants portions
      → GivesByRemainder amount base participants portions
      → (i : ℕ) → i < length participants → value_at portions i ≡ portion (length participants) amount base (value_at participants) i
  fair_at some whole len sum within by_remainder i lt =
      is_rounded i lt ∙ ap (λ (b : Bool). quota_of amount base (value_at participants i) + bit b)
      (first_k (length participants) (remainders amount base (value_at participants)) has_unit
      (left (length participants) amount base (value_at participants)) (units _ _ all) goes_down i lt)
    where
      is_rounded : (k : ℕ) → k < length participants → value_at portions k ≡ rounded k
      is_rounded k kn = quota_or_more (amount * value_at participants k) base (value_at portions k) some (within k kn).0 (within k kn).1

      all : quotas (length participants) amount base (value_at participants) + count_below (length participants) has_unit ≡ amount
      all =
          sym (sum_below-add (length participants) (λ k. quota_of amount base (value_at participants k)) (λ k. bit (has_unit k)))
          ∙ (sym (same_sums (length participants) (value_at portions) rounded is_rounded)
          ∙ (ap (λ (m : ℕ). sum_below m (value_at portions)) (sym len) ∙ (sym (sum_by_number (λ x. x) portions) ∙ sum)))

      units : (q c : ℕ) → q + c ≡ amount → c ≡ amount - q
      units q c e = omega arith

      goes_down : (j k : ℕ) → j < length participants → k < length participants
          → comes_before_by (remainders amount base (value_at participants)) j k ≡ true → has_unit k ≡ true → has_unit j ≡ true
      goes_down j k jn kn first has_k =
          lt-ltb _ _ (by_remainder j k jn kn (comes_before_means (remainders amount base (value_at participants)) j k first) (ltb-true _ _ has_k))

-- No other portions are fair.
pub only_fair : (amount : ℕ) (claims portions : List (ℕ × ℕ)) → IsFairSplitOfSize amount claims portions → portions ≡ portions_of amount claims
only_fair amount claims portions fair =
    same_lists portions (portions_of amount claims)
    (len ∙ sym (length-portions amount (base_of claims) (participants_of claims)))
    (λ i d lt.
    let in_list : i < length (participants_of claims) = rw len at lt in
    same_entry (get_or portions i d) (get_or (portions_of amount claims) i d)
    (account i d lt in_list ∙ sym (ap (λ (e : ℕ × ℕ). e.0) (portion_at amount (base_of claims) (participants_of claims) i d in_list)))
    (number_at_is portions i d lt
    ∙ (fair_at amount (base_of claims) (participants_of claims) portions (base_positive claims) (shares_are_base claims) len
    fair.adds_up fair.within_quota fair.by_remainder i in_list
    ∙ sym (ap (λ (e : ℕ × ℕ). e.1) (portion_at amount (base_of claims) (participants_of claims) i d in_list)))))
  where
    len : length portions ≡ length (participants_of claims)
    len =
        sym (length-map portions (λ e. e.0))
        ∙ (ap (λ (l : List ℕ). length l) fair.same_accounts ∙ length-map (participants_of claims) (λ p. p.0))

    account : (i : ℕ) (d : ℕ × ℕ) → i < length portions → i < length (participants_of claims)
        → (get_or portions i d).0 ≡ (get_or (participants_of claims) i (0, 0)).0
    account i d lt in_list =
        sym (get_or-map (λ e. e.0) portions i d 0 lt)
        ∙ (ap (λ (l : List ℕ). get_or l i 0) fair.same_accounts ∙ get_or-map (λ p. p.0) (participants_of claims) i (0, 0) 0 in_list)

    same_entry : (x y : ℕ × ℕ) → x.0 ≡ y.0 → x.1 ≡ y.1 → x ≡ y
    same_entry x y e f = ap (λ (a : ℕ). (a, x.1)) e ∙ ap (λ (b : ℕ). (y.0, b)) f
