-- Amounts of one key stand together in a list that is sorted by an order whose ties are those of keys.
use Rattle.std.proofs.Common.{◌≡◌, ◌∙◌, ◌+◌, ◌-◌, ◌<◌, ◌∷◌, [], ◌⊎◌, ⊎_elim, ℕ, ℤ, suc, Bool, true, false, List, Less, Equal, Greater, ap, arith, cond, filter, get_or, inl, inr, length, map, refl, sym, take}
use Rattle.std.specs.Cmp.{IsEquivalence, IsTotalOrder}
use Rattle.std.specs.List.Sorted.{IsSorted}
use Rattle.std.specs.Ordering.{is_lt, ordering_reverse}
use Rattle.std.specs.declared.cmp.Ordering.{Ordering}
use Rattle.std.proofs.lemmas.Bool.{false≢true}
use Rattle.std.proofs.lemmas.List.{get_or-map, get_or-take, length-map, length-take, take-map}
use Rattle.std.proofs.lemmas.List.Sorted.{ranks_by, sorted_far}
use Rattle.usage_totals.specs.Greatest.{amounts_at}
use Rattle.usage_totals.specs.SoFar.{StandTogether}

none_kept : {X : Type 0} (p : X → Bool) (xs : List X) → ((i : ℕ) (d : X) → i < length xs → p (get_or xs i d) ≡ false) → filter p xs ≡ []
none_kept p [] fails = refl
none_kept p (x ∷ xs) fails =
    ap (λ (b : Bool). cond b (x ∷ filter p xs) (filter p xs)) (fails 0 x (omega arith)) ∙ none_kept p xs (λ i d below. fails (suc i) d (omega (arith, below)))

-- neither less nor greater
tied : (o : Ordering) → is_lt o ≡ false → is_lt (ordering_reverse o) ≡ false → o ≡ Equal
tied Less one other = absurd (false≢true (sym one))
tied Equal one other = refl
tied Greater one other = absurd (false≢true (sym other))

module _ {X K : Type 0} (eq : K → K → Bool) (laws : IsEquivalence eq) (of : X → K × ℤ) (R : X → X → Ordering) (order : IsTotalOrder R) where
  -- the order's ties among these items are those of their keys
  abbrev pub TiesAreOfKeys : List X → Type 0
  TiesAreOfKeys xs = (i j : ℕ) (d : X) → i < length xs → j < length xs
      → (R (get_or xs i d) (get_or xs j d) ≡ Equal → eq (of (get_or xs i d)).0 (of (get_or xs j d)).0 ≡ true)
      × (eq (of (get_or xs i d)).0 (of (get_or xs j d)).0 ≡ true → R (get_or xs i d) (get_or xs j d) ≡ Equal)

  module _ (xs : List X) (ties : TiesAreOfKeys xs) (up : IsSorted R xs) (n : ℕ) (d : X) (below : n + 1 < length xs) where
    abbrev at : ℕ → X
    at i = get_or xs i d

    abbrev lt : X → X → Bool
    lt x y = is_lt (R x y)

    -- the next is not less, and an earlier one of its key would tie with it
    apart : eq (of (at (n + 1))).0 (of (at n)).0 ≡ false → (i : ℕ) → i < n + 1 → (b : Bool) → eq (of (at (n + 1))).0 (of (at i)).0 ≡ b → b ≡ false
    apart differs i within false told = refl
    apart differs i within true told =
        let ranks = ranks_by order (λ (x : X). x) in
        let tie : R (at (n + 1)) (at i) ≡ Equal = (ties (n + 1) i d below (omega (arith, within, below))).1 told in
        let back : R (at i) (at (n + 1)) ≡ Equal = order.antisymm (at i) (at (n + 1)) ∙ ap ordering_reverse tie in
        let earlier : lt (at n) (at i) ≡ false = sorted_far lt ranks xs up i n d (omega (arith, within)) (omega (arith, below)) in
        let not_less : lt (at n) (at (n + 1)) ≡ false = ranks.chain (at n) (at i) (at (n + 1)) earlier (ap is_lt back) in
        let not_more : lt (at (n + 1)) (at n) ≡ false = up n d (omega arith) below in
        let same : R (at (n + 1)) (at n) ≡ Equal = tied (R (at (n + 1)) (at n)) not_more (ap is_lt (sym (order.antisymm (at n) (at (n + 1)))) ∙ not_less) in
        absurd (false≢true (sym differs ∙ (ties (n + 1) n d below (omega (arith, below))).0 same))

    abbrev listed : List (K × ℤ)
    listed = map of xs

    listed_at : (i : ℕ) (e : K × ℤ) → i < length xs → get_or listed i e ≡ of (at i)
    listed_at i e within = get_or-map of xs i d e within

    next_is : (e : K × ℤ) (b : Bool) → eq (of (at (n + 1))).0 (of (at n)).0 ≡ b
        → (eq (of (at (n + 1))).0 (of (at n)).0 ≡ true) ⊎ (amounts_at eq (of (at (n + 1))).0 (take (n + 1) listed) ≡ [])
    next_is e true told = inl told
    next_is e false told = inr (none_kept (λ (a : K × ℤ). eq (of (at (n + 1))).0 a.0) (take (n + 1) listed) (λ i c within.
        let few : i < n + 1 = omega (arith, within, length-take (n + 1) listed) in
        (λ k. eq (of (at (n + 1))).0 ((get_or-take (n + 1) listed i c few ∙ listed_at i c (omega (arith, few, below))) k).0)
        ∙ apart told i few (eq (of (at (n + 1))).0 (of (at i)).0) refl))

    pub next_stands : (e : K × ℤ) → (eq (get_or listed (n + 1) e).0 (get_or listed n e).0 ≡ true) ⊎ (amounts_at eq (get_or listed (n + 1) e).0 (take (n + 1) listed) ≡ [])
    next_stands e =
        let here = listed_at n e (omega (arith, below)) in
        let next = listed_at (n + 1) e below in
        rw (here, next) (next_is e (eq (of (at (n + 1))).0 (of (at n)).0) refl)

  pub stand_together : (xs : List X) → TiesAreOfKeys xs → IsSorted R xs → StandTogether eq (map of xs)
  stand_together [] ties up = λ n e below. absurd (omega (arith, below))
  stand_together (x ∷ xs) ties up = λ n e below. next_stands (x ∷ xs) ties up n x (omega (arith, below, length-map (x ∷ xs) of)) e

-- Among amounts that stand together, the next is of the key of the one before it, or of a key that had
-- none.
module _ {X K : Type 0} (eq : K → K → Bool) (laws : IsEquivalence eq) (of : X → K × ℤ) (xs : List X) (next : ℕ) (x : X) (some : 0 < next) (below : next < length xs) (is : get_or xs next x ≡ x) where
  pub as_before : (hand : K) → ((d : X) → eq (of (get_or xs (next - 1) d)).0 hand ≡ true) → StandTogether eq (map of xs)
      → (eq (of x).0 hand ≡ true) ⊎ (amounts_at eq (of x).0 (map of (take next xs)) ≡ [])
  as_before hand last together =
      let listed = map of xs in
      let one_on : next - 1 + 1 ≡ next = omega (arith, some) in
      let here : get_or listed (next - 1 + 1) (of x) ≡ of x = ap (λ n. get_or listed n (of x)) one_on ∙ get_or-map of xs next x (of x) below ∙ ap of is in
      let before : get_or listed (next - 1) (of x) ≡ of (get_or xs (next - 1) x) = get_or-map of xs (next - 1) x (of x) (omega (arith, some, below)) in
      let first : take (next - 1 + 1) listed ≡ map of (take next xs) = ap (λ n. take n listed) one_on ∙ take-map of next xs in
      ⊎_elim
      (λ same. inl (laws.congr (of x).0 (of (get_or xs (next - 1) x)).0 hand ((λ i. eq (sym here i).0 (sym before i).0) ∙ same) ∙ last x))
      (λ none. inr ((λ i. amounts_at eq (sym here i).0 (sym first i)) ∙ none))
      (together (next - 1) (of x) (omega (arith, some, below, length-map xs of)))
