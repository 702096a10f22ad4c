-- The keys with most money are determined by the amounts, with their order.
use Rattle.std.proofs.Common.{◌≡◌, ◌∙◌, ◌+◌, ◌<◌, ◌∷◌, [], ℕ, ℤ, zero, suc, unsigned_abs, Bool, true, false, List, Some, Less, Equal, Greater, ap, arith, get_or, inl, inr, length, refl, rules, sym, take, ◌⊎◌, ⊎_elim}
use Rattle.std.specs.Cmp.{IsEquivalence, IsTotalOrder, back_total, nat_cmp_total, on_total, then_total}
use Rattle.std.specs.List.{Contains, IsDistinct}
use Rattle.std.specs.List.Sorted.{IsSorted, IsStrictlySortedBy}
use Rattle.std.specs.Map.{keys_of, lookup}
use Rattle.std.specs.Ordering.{is_lt, nat_cmp, ordering_reverse, ordering_then}
use Rattle.std.specs.declared.cmp.Ordering.{Ordering}
use Rattle.std.proofs.lemmas.Bool.{false≢true}
use Rattle.std.proofs.lemmas.List.{get_or-map, length-map}
use Rattle.std.proofs.lemmas.List.Elements.{All-contains}
use Rattle.std.proofs.lemmas.List.Sorted.{Contains-permutation, IsPermutation-map, IsPermutation-sym, length_permutation}
use Rattle.std.proofs.lemmas.Map.Keys.{IsDistinct-IsPermutation, apart_from_distinct, sorted_from_all_adjacent, sorted_tail}
use Rattle.std.proofs.lemmas.Map.Views.{All-after_first, Contains-from_lookup, lookup-from_Contains}
use Rattle.usage_totals.specs.Greatest.{AreGreatest, by_money}
use Rattle.usage_totals.specs.declared.by_key.Ranked.{Ranked}
use Rattle.usage_totals.specs.declared.total.Total.{Total}

-- two lists in a strict order that have the same items are the same
module _ {X : Type 0} (R : X → X → Ordering) (order : IsTotalOrder R) where
  not_both : (x y : X) → R x y ≡ Less → R y x ≡ Less → ⊥
  not_both x y one other = let back = order.antisymm x y ∙ ap ordering_reverse other in absurd (cc (back, one))

  among : (z w : X) (zs : List X) → Contains (z ∷ zs) w → (z ≡ w) ⊎ Contains zs w
  among z w zs (zero, below, at) = inl at
  among z w zs (suc k, below, at) = inr (k, omega (arith, below), at)

  after : (z w : X) (zs : List X) → IsStrictlySortedBy R (z ∷ zs) → Contains zs w → R z w ≡ Less
  after z w zs up has = All-contains (λ q. R z q ≡ Less) zs w (All-after_first R z zs up) has

  same_first : (x y : X) (xs ys : List X) → IsStrictlySortedBy R (x ∷ xs) → IsStrictlySortedBy R (y ∷ ys) → Contains (y ∷ ys) x → Contains (x ∷ xs) y → x ≡ y
  same_first x y xs ys up rise to back =
      ⊎_elim (λ e. sym e) (λ behind. ⊎_elim (λ e. e) (λ before. absurd (not_both x y (after x y xs up before) (after y x ys rise behind))) (among x y xs back)) (among y x ys to)

  rest_of : (x y z : X) (xs ys : List X) → IsStrictlySortedBy R (x ∷ xs) → x ≡ y → Contains (y ∷ ys) z → Contains xs z → Contains ys z
  rest_of x y z xs ys up same to has =
      ⊎_elim
      (λ e.
      let alike : x ≡ z = same ∙ e in
      let less = after x z xs up has in
      absurd (not_both x z less ((λ i. R (sym alike i) (alike i)) ∙ less)))
      (λ rest. rest)
      (among y z ys to)

  same_items : (xs ys : List X) → IsStrictlySortedBy R xs → IsStrictlySortedBy R ys → ((x : X) → Contains xs x → Contains ys x) → ((x : X) → Contains ys x → Contains xs x) → xs ≡ ys
  same_items [] [] up rise to back = refl
  same_items [] (y ∷ ys) up rise to back = absurd (omega (arith, (back y (0, omega arith, refl)).1))
  same_items (x ∷ xs) [] up rise to back = absurd (omega (arith, (to x (0, omega arith, refl)).1))
  same_items (x ∷ xs) (y ∷ ys) up rise to back =
      let first = same_first x y xs ys up rise (to x (0, omega arith, refl)) (back y (0, omega arith, refl)) in
      let rest = same_items xs ys (sorted_tail R x xs up) (sorted_tail R y ys rise)
      (λ z has. rest_of x y z xs ys up first (to z (behind x z xs has)) has) (λ z has. rest_of y x z ys xs rise (sym first) (back z (behind y z ys has)) has) in
      λ i. first i ∷ rest i
    where
      behind : (w z : X) (zs : List X) → Contains zs z → Contains (w ∷ zs) z
      behind w z zs (k, below, at) = (suc k, omega (arith, below), at)

strict_none : {X : Type 0} (R : X → X → Ordering) → IsStrictlySortedBy R []
unfolding IsStrictlySortedBy
strict_none R = search rules

-- not less than one and no tie is greater
falls : (o : Ordering) → is_lt o ≡ false → (o ≡ Equal → ⊥) → o ≡ Greater
falls Less apart no_tie = absurd (cc)
falls Equal apart no_tie = absurd (no_tie refl)
falls Greater apart no_tie = refl

-- a tie in money is one of keys
pub key_tie : (o other : Ordering) → ordering_then o other ≡ Equal → other ≡ Equal
key_tie Less other is = absurd (cc)
key_tie Equal other is = is
key_tie Greater other is = absurd (cc)

module _ {K : Type 0} (eq : K → K → Bool) (laws : IsEquivalence eq) (same : (x y : K) → eq x y ≡ true → x ≡ y) (cmp : K → K → Ordering) (order : IsTotalOrder cmp) (ties : (x y : K) → cmp x y ≡ Equal → eq x y ≡ true)
    (most : ℕ) (amounts : List (K × ℤ)) where
  money_order : IsTotalOrder (by_money cmp)
  money_order = then_total (on_total (λ (e : K × Total). unsigned_abs e.1.amount) (back_total nat_cmp_total)) (on_total (λ (e : K × Total). e.0) order)

  -- where no key stands twice, the order is strict
  strict : (list : List (K × Total)) → IsSorted (by_money cmp) list → IsDistinct eq (keys_of list) → IsStrictlySortedBy (by_money cmp) list
  strict [] up once = strict_none (by_money cmp)
  strict (d ∷ list) up once = sorted_from_all_adjacent money_order (d ∷ list) d (λ k below.
      let x = get_or (d ∷ list) k d in
      let y = get_or (d ∷ list) (k + 1) d in
      let back : by_money cmp y x ≡ Greater = falls (by_money cmp y x) (up k d (omega arith) below) (λ tie. apart d list once k below (ties y.0 x.0 (key_tie (nat_cmp (unsigned_abs x.1.amount) (unsigned_abs y.1.amount)) (cmp y.0 x.0) tie))) in
      money_order.antisymm x y ∙ ap ordering_reverse back)
    where
      apart : (d : K × Total) (list : List (K × Total)) → IsDistinct eq (keys_of (d ∷ list)) → (k : ℕ) → k + 1 < length (d ∷ list) → eq (get_or (d ∷ list) (k + 1) d).0 (get_or (d ∷ list) k d).0 ≡ true → ⊥
      apart d list once k below alike =
          let keys = keys_of (d ∷ list) in
          let key = λ (e : K × Total). e.0 in
          let within : k + 1 < length keys = omega (arith, below, length-map (d ∷ list) key) in
          let apart' = apart_from_distinct eq keys k (k + 1) d.0 once (omega arith) within in
          let at = get_or-map key (d ∷ list) k d d.0 (omega arith) in
          let next = get_or-map key (d ∷ list) (k + 1) d d.0 below in
          absurd (false≢true (sym apart' ∙ (λ i. eq (at i) (next i)) ∙ laws.symm (get_or (d ∷ list) k d).0 (get_or (d ∷ list) (k + 1) d).0 ∙ alike))

  module _ (ranked : Ranked K) (are : AreGreatest eq cmp most amounts ranked) where
    abbrev sorted : List (K × Total)
    sorted = are.greatest.sorted

    rises : IsStrictlySortedBy (by_money cmp) sorted
    rises = strict sorted are.greatest.order once
      where
        once : IsDistinct eq (keys_of sorted)
        once = IsDistinct-IsPermutation eq laws.symm (keys_of are.all) (keys_of sorted) (IsPermutation-map (λ (e : K × Total). e.0) are.all sorted are.greatest.same) are.totals.once

    has_key : (e : K × Total) → Contains sorted e → lookup (eq e.0) are.all ≡ Some e.1
    has_key e has = lookup-from_Contains laws e.0 e.1 are.all are.totals.once (Contains-permutation sorted are.all e (IsPermutation-sym are.all sorted are.greatest.same) has)

    sorted_count : ranked.count ≡ length sorted
    sorted_count = are.count ∙ sym (length_permutation are.all sorted are.greatest.same)

  module _ (ranked other : Ranked K) (are : AreGreatest eq cmp most amounts ranked) (also : AreGreatest eq cmp most amounts other) where
    has_too : (e : K × Total) → Contains are.greatest.sorted e → Contains also.greatest.sorted e
    has_too e has =
        let found : lookup (eq e.0) also.all ≡ Some e.1 = also.totals.each e.0 ∙ sym (are.totals.each e.0) ∙ has_key ranked are e has in
        Contains-permutation also.all also.greatest.sorted e also.greatest.same (Contains-from_lookup same e.0 e.1 also.all found)

  pub one_greatest : (ranked other : Ranked K) → AreGreatest eq cmp most amounts ranked → AreGreatest eq cmp most amounts other
      → (ranked.first.items ≡ other.first.items) × (ranked.count ≡ other.count)
  one_greatest ranked other are also =
      let alike : are.greatest.sorted ≡ also.greatest.sorted =
      same_items (by_money cmp) money_order are.greatest.sorted also.greatest.sorted (rises ranked are) (rises other also) (has_too ranked other are also) (has_too other ranked also are) in (
        are.greatest.first ∙ ap (λ (l : List (K × Total)). take most l) alike ∙ sym also.greatest.first,
        sorted_count ranked are ∙ ap (λ (l : List (K × Total)). length l) alike ∙ sym (sorted_count other also),
      )
