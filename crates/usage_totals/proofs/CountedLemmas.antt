-- Amounts that stand together by key, counted one after another.
use Rattle.std.proofs.Common.{◌≡◌, ◌∙◌, ◌+◌, ◌-◌, ◌<◌, ◌≤◌, ◌++◌, ◌∷◌, [], ◌⊎◌, ⊎_elim, ℕ, ℤ, Bool, true, false, List, ap, arith, get_or, length, map, refl, subst, sym, take}
use Rattle.std.specs.Cmp.{IsEquivalence}
use Rattle.std.specs.declared.cmp.Ordering.{Ordering}
use Rattle.std.proofs.lemmas.Bool.{false≢true}
use Rattle.std.proofs.lemmas.List.{get_or_default, map_more, take_all}
use Rattle.usage_totals.specs.Greatest.{AreFirst, AreGreatest, amounts_at, by_money}
use Rattle.usage_totals.specs.SoFar.{AreCounted, StandTogether}
use Rattle.usage_totals.specs.declared.by_key.Ranked.{Ranked}
use Rattle.usage_totals.specs.declared.total.Total.{Total}
use Rattle.usage_totals.proofs.ByKeyLemmas.{nothing, total_with, totals_first, totals_more, totals_none}
use Rattle.usage_totals.proofs.FirstLemmas.{first_of_none}
use Rattle.usage_totals.proofs.TogetherLemmas.{as_before}

module _ {K : Type 0} (eq : K → K → Bool) (laws : IsEquivalence eq) (cmp : K → K → Ordering) (most : ℕ) where
  -- what one key more leaves
  pub record IsPut (entry : K × Total) (ranked after : Ranked K) : Type 0 where
    pub first : (all : List (K × Total)) → AreFirst (by_money cmp) most all ranked.first.items → AreFirst (by_money cmp) most (entry ∷ all) after.first.items
    pub count : after.count ≡ ranked.count + 1

  -- one amount more: of the key at hand, or the first of its key
  module _ (amounts : List (K × ℤ)) (hand : K × Total) (ranked : Ranked K) (amount : K × ℤ) (counted : AreCounted eq cmp most amounts hand ranked) where
    pub counted_more : (total : Total) → total ≡ total_with hand.1 amount.1 → eq amount.0 hand.0 ≡ true → AreCounted eq cmp most (amounts ++ amount ∷ []) (hand.0, total) ranked
    counted_more total is same = record {
      before = counted.before;
      totals = rw is (totals_more eq laws amount.0 hand.0 amount.1 hand.1 counted.before amounts same counted.totals);
      greatest = counted.greatest;
      count = counted.count;
    }

    pub counted_other : (next : K × Total) (after : Ranked K) → next ≡ (amount.0, total_with nothing amount.1) → eq amount.0 hand.0 ≡ false
        → (eq amount.0 hand.0 ≡ true) ⊎ (amounts_at eq amount.0 amounts ≡ [])
        → IsPut hand ranked after → AreCounted eq cmp most (amounts ++ amount ∷ []) next after
    counted_other next after is differs cases put =
        ⊎_elim (λ same. absurd (false≢true (sym differs ∙ same))) (λ none. record {
          before = hand ∷ counted.before;
          totals = rw is (totals_first eq laws amount.0 amount.1 (hand ∷ counted.before) amounts none counted.totals);
          greatest = put.first counted.before counted.greatest;
          count = omega (arith, put.count, counted.count);
        }) cases

  module _ {X : Type 0} (of : X → K × ℤ) (xs : List X) where
    pub greatest_none : (ranked : Ranked K) → length xs ≡ 0 → ranked.first.items ≡ [] → ranked.count ≡ 0 → AreGreatest eq cmp most (map of xs) ranked
    greatest_none ranked none is counted = rw (empty xs none) record {
      all = [];
      totals = totals_none eq;
      greatest = rw is (first_of_none (by_money cmp) most);
      count = counted;
    }
      where
        empty : (ys : List X) → length ys ≡ 0 → map of ys ≡ []
        empty [] none = refl
        empty (y ∷ ys) none = absurd (omega (arith, none))

    -- the first
    pub counted_first : (d : X) (amount : K × ℤ) (total : Total) (ranked : Ranked K) → 0 < length xs → amount ≡ of (get_or xs 0 d) → total ≡ total_with nothing amount.1
        → ranked.first.items ≡ [] → ranked.count ≡ 0
        → AreCounted eq cmp most (map of (take 1 xs)) (amount.0, total) ranked
    counted_first d amount total ranked some is total_is none counted =
        let listed : map of (take 1 xs) ≡ amount ∷ [] = map_more of xs 0 d some ∙ (λ i. sym is i ∷ []) in
        rw (listed, total_is) record {
          before = [];
          totals = totals_first eq laws amount.0 amount.1 [] [] refl (totals_none eq);
          greatest = rw none (first_of_none (by_money cmp) most);
          count = counted;
        }

    pub first_is : (d : X) (amount : K × ℤ) → 0 < length xs → amount ≡ of (get_or xs 0 d) → (e : X) → eq (of (get_or xs 0 e)).0 amount.0 ≡ true
    first_is d amount some is e =
        let read : of (get_or xs 0 e) ≡ amount = ap of (get_or_default xs 0 e d some) ∙ sym is in
        (λ i. eq (read i).0 amount.0) ∙ laws.refl amount.0

    -- and the next
    module _ (next : ℕ) (d : X) (amount : K × ℤ) (some : 0 < next) (below : next < length xs) (is : amount ≡ of (get_or xs next d)) where
      pub cases_of : (hand : K) → ((e : X) → eq (of (get_or xs (next - 1) e)).0 hand ≡ true)
          → StandTogether eq (map of xs) → (eq amount.0 hand ≡ true) ⊎ (amounts_at eq amount.0 (map of (take next xs)) ≡ [])
      cases_of hand last together = rw is (as_before eq laws of xs next (get_or xs next d) some below (get_or_default xs next (get_or xs next d) d below) hand last together)

      pub counted_next : (hand : K × Total) (ranked : Ranked K) → AreCounted eq cmp most (map of (take next xs) ++ amount ∷ []) hand ranked
          → AreCounted eq cmp most (map of (take (next + 1) xs)) hand ranked
      counted_next hand ranked counted =
          let longer : map of (take next xs) ++ amount ∷ [] ≡ map of (take (next + 1) xs) = (λ i. map of (take next xs) ++ is i ∷ []) ∙ sym (map_more of xs next d below) in
          subst (λ (l : List (K × ℤ)). AreCounted eq cmp most l hand ranked) longer counted

      pub last_is : (hand : K) → eq amount.0 hand ≡ true → (e : X) → eq (of (get_or xs (next + 1 - 1) e)).0 hand ≡ true
      last_is hand same e =
          let back : next + 1 - 1 ≡ next = omega arith in
          let read : of (get_or xs (next + 1 - 1) e) ≡ amount = ap (λ n. of (get_or xs n e)) back ∙ ap of (get_or_default xs next e d below) ∙ sym is in
          (λ i. eq (read i).0 hand) ∙ same

    -- when all are counted
    pub greatest_all : (count : ℕ) (hand : K × Total) (ranked after : Ranked K) → length xs ≤ count → AreCounted eq cmp most (map of (take count xs)) hand ranked
        → IsPut hand ranked after → AreGreatest eq cmp most (map of xs) after
    greatest_all count hand ranked after done counted put =
        let whole : map of (take count xs) ≡ map of xs = ap (map of) (take_all count xs done) in
        record {
          all = hand ∷ counted.before;
          totals = rw (sym whole) counted.totals;
          greatest = put.first counted.before counted.greatest;
          count = omega (arith, put.count, counted.count);
        }
