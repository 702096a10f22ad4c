-- The keys with most money, by the amounts alone.
use Rattle.std.proofs.Common.{◌≡◌, ◌∙◌, ◌<◌, ◌≤◌, ◌∷◌, [], ℕ, ℤ, unsigned_abs, Bool, true, false, List, Some, Less, Equal, Greater, ap, arith, cond, get_or, length, refl, subst, sym, ⊎_elim}
use Rattle.std.specs.Cmp.{IsEquivalence, IsTotalOrder}
use Rattle.std.specs.List.{All, Contains, IsDistinct, list_any, slice_get}
use Rattle.std.specs.Map.{keys_of}
use Rattle.std.specs.Ordering.{is_lt, nat_cmp, ordering_then}
use Rattle.std.specs.declared.cmp.Ordering.{Ordering}
use Rattle.std.proofs.lemmas.Bool.{cases_lt, false≢true}
use Rattle.std.proofs.lemmas.List.{get_or-take, get_or_default, length-take, take-map}
use Rattle.std.proofs.lemmas.List.Elements.{Contains-get_or}
use Rattle.std.proofs.lemmas.List.Sorted.{Contains-permutation, IsPermutation-map, IsPermutation-sym, sorted_far}
use Rattle.std.proofs.lemmas.Map.Entries.{place_from_lookup}
use Rattle.std.proofs.lemmas.Map.Keys.{IsDistinct-IsPermutation, any_passes_from_place, ge_from_not_lt}
use Rattle.std.proofs.lemmas.Map.Views.{lookup-from_Contains}
use Rattle.std.specs.Option.{option_map}
use Rattle.std.proofs.lemmas.Option.{slice_get-get_or, slice_get-map, slice_get_within}
use Rattle.indexmap.proofs.MapLemmas.{distinct-take}
use Rattle.usage_totals.specs.Greatest.{AreGreatest, HaveMostMoney, amounts_at, by_money, total_if_any, total_of}
use Rattle.usage_totals.specs.declared.by_key.Ranked.{Ranked}
use Rattle.usage_totals.specs.declared.total.Total.{Total}
use Rattle.usage_totals.proofs.ByKeyLemmas.{money_ranks}

-- a total is of some amounts
some_amounts : {K : Type 0} (amounts : List (K × ℤ)) (total : Total) → Some total ≡ total_if_any amounts → (total ≡ total_of amounts) × (0 < total.lines)
some_amounts [] total is = absurd (cc)
some_amounts (amount ∷ amounts) total is =
    let same : total ≡ total_of (amount ∷ amounts) = cc in
    (same, subst (λ (t : Total). 0 < t.lines) (sym same) (omega arith))

-- a key that has amounts has a total
has_total : {K : Type 0} (eq : K → K → Bool) (key : K) (amounts : List (K × ℤ)) → list_any (eq key) (keys_of amounts) ≡ true → total_if_any (amounts_at eq key amounts) ≡ Some (total_of (amounts_at eq key amounts))
has_total eq key [] some = absurd (cc)
has_total {K} eq key (amount ∷ amounts) some = by (eq key amount.0) refl (has_total eq key amounts)
  where
    by : (b : Bool) → eq key amount.0 ≡ b → (list_any (eq key) (keys_of amounts) ≡ true → total_if_any (amounts_at eq key amounts) ≡ Some (total_of (amounts_at eq key amounts)))
        → total_if_any (cond b (amount ∷ amounts_at eq key amounts) (amounts_at eq key amounts)) ≡ Some (total_of (cond b (amount ∷ amounts_at eq key amounts) (amounts_at eq key amounts)))
    by true told rest = refl
    by false told rest = rest (rw told at some)

first_not_less : (o other : Ordering) → is_lt (ordering_then o other) ≡ false → is_lt o ≡ false
first_not_less Less other apart = apart
first_not_less Equal other apart = refl
first_not_less Greater other apart = refl

module _ {K : Type 0} (eq : K → K → Bool) (laws : IsEquivalence eq) (cmp : K → K → Ordering) (order : IsTotalOrder cmp) (most : ℕ) (amounts : List (K × ℤ)) (ranked : Ranked K) (are : AreGreatest eq cmp most amounts ranked) where
  abbrev shown : List (K × Total)
  shown = ranked.first.items

  abbrev sorted : List (K × Total)
  sorted = are.greatest.sorted

  shorter : (length shown ≤ most) × (length shown ≤ length sorted)
  shorter = (omega (arith, ap (λ (l : List (K × Total)). length l) are.greatest.first, length-take most sorted), omega (arith, ap (λ (l : List (K × Total)). length l) are.greatest.first, length-take most sorted))

  at_place : (k : ℕ) (d : K × Total) → k < length shown → get_or shown k d ≡ get_or sorted k d
  at_place k d below = ap (λ (l : List (K × Total)). get_or l k d) are.greatest.first ∙ get_or-take most sorted k d (omega (arith, shorter.0))

  shown_once : IsDistinct eq (keys_of shown)
  shown_once =
      let once = IsDistinct-IsPermutation eq laws.symm (keys_of are.all) (keys_of sorted) (IsPermutation-map (λ (e : K × Total). e.0) are.all sorted are.greatest.same) are.totals.once in
      subst (λ (l : List K). IsDistinct eq l) (take-map (λ (e : K × Total). e.0) most sorted ∙ ap (λ (l : List (K × Total)). keys_of l) (sym are.greatest.first)) (distinct-take laws most (keys_of sorted) once)

  -- each is shown with all its amounts
  shown_each : All (λ e. (e.1 ≡ total_of (amounts_at eq e.0 amounts)) × (0 < e.1.lines)) shown
  shown_each k d below =
      let e = get_or shown k d in
      let among : Contains sorted e = subst (λ (x : K × Total). Contains sorted x) (sym (at_place k d below)) (Contains-get_or sorted k d (omega (arith, shorter.1))) in
      let kept : Contains are.all e = Contains-permutation sorted are.all e (IsPermutation-sym are.all sorted are.greatest.same) among in
      some_amounts (amounts_at eq e.0 amounts) e.1 (sym (lookup-from_Contains laws e.0 e.1 are.all are.totals.once kept) ∙ are.totals.each e.0)

  -- a key that is left out stands behind all that are shown
  module _ (key : K) (some : list_any (eq key) (keys_of amounts) ≡ true) (left : list_any (eq key) (keys_of shown) ≡ false) where
    abbrev total : Total
    total = total_of (amounts_at eq key amounts)

    shown_too : (e : K × Total) (place : ℕ) → place < length shown → get_or sorted place e ≡ e → eq key e.0 ≡ true → list_any (eq key) (keys_of shown) ≡ true
    shown_too e place below at told =
        let here : slice_get shown place ≡ Some e = slice_get-get_or shown place e below ∙ ap Some (at_place place e below ∙ at) in
        any_passes_from_place (eq key) (keys_of shown) place e.0 (slice_get-map (λ (x : K × Total). x.0) shown place ∙ ap (option_map (λ (x : K × Total). x.0)) here) told

    behind_at : (e : K × Total) → Contains sorted e → eq key e.0 ≡ true → (place : ℕ) × (length shown ≤ place) × (place < length sorted) × ((d : K × Total) → (get_or sorted place d).1 ≡ e.1)
    behind_at e (place, within, at) told =
        let last : length shown ≤ place = ⊎_elim (λ below. absurd (false≢true (sym left ∙ shown_too e place below at told))) (λ le. le) (cases_lt place (length shown)) in
        (place, last, within, λ d. ap (λ (x : K × Total). x.1) (get_or_default sorted place d e within ∙ at))

    found_at : (e : K × Total) (place : ℕ) → slice_get are.all place ≡ Some e → Contains sorted e
    found_at e place is =
        let within : place < length are.all = slice_get_within are.all place e is in
        let at = slice_get-get_or are.all place e within in
        let read : get_or are.all place e ≡ e = cc (is, at) in
        Contains-permutation are.all sorted e are.greatest.same (place, within, read)

    behind : (place : ℕ) × (length shown ≤ place) × (place < length sorted) × ((d : K × Total) → (get_or sorted place d).1 ≡ total)
    behind =
        let (place, k, is, told) = place_from_lookup (eq key) are.all total (are.totals.each key ∙ has_total eq key amounts some) in
        behind_at (k, total) (found_at (k, total) place is) told

    none_more : (length shown ≡ most) × All (λ e. unsigned_abs total.amount ≤ unsigned_abs e.1.amount) shown
    none_more =
        let place = behind.0 in
        let full : length shown ≡ most = omega (arith, behind.1, behind.2, ap (λ (l : List (K × Total)). length l) are.greatest.first, length-take most sorted) in (
          full,
          λ k d below.
              let apart = sorted_far (λ (x y : K × Total). is_lt (by_money cmp x y)) (money_ranks cmp order) sorted are.greatest.order k place d (omega (arith, below, behind.1)) behind.2 in
              let least = ge_from_not_lt (unsigned_abs (get_or sorted k d).1.amount) (unsigned_abs (get_or sorted place d).1.amount) (first_not_less (nat_cmp (unsigned_abs (get_or sorted k d).1.amount) (unsigned_abs (get_or sorted place d).1.amount)) (cmp (get_or sorted place d).0 (get_or sorted k d).0) apart) in
              let these : unsigned_abs (get_or sorted place d).1.amount ≤ unsigned_abs (get_or shown k d).1.amount = subst (λ (x : K × Total). unsigned_abs (get_or sorted place d).1.amount ≤ unsigned_abs x.1.amount) (sym (at_place k d below)) least in
              subst (λ (t : Total). unsigned_abs t.amount ≤ unsigned_abs (get_or shown k d).1.amount) (behind.3 d) these,
        )

  pub have_most_money : HaveMostMoney eq most amounts shown
  have_most_money = record { few = shorter.0; once = shown_once; each = shown_each; left_out = none_more }
