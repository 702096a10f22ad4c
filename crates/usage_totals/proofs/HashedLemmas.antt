-- Lines in order of a hash of their keys, and of these where that is the same.
use Rattle.std.proofs.Common.{◌≡◌, ◌∙◌, ◌<◌, ◌≤◌, Bool, true, List, Less, Equal, Greater, ap, get_or, length, map, option_map, slice_get, sym, unsigned_abs}
use Rattle.std.specs.Cmp.{IsEquivalence, IsTotalOrder, nat_cmp_total, on_total, then_total}
use Rattle.std.specs.Cmp.Lexicographic.{options_total}
use Rattle.std.specs.List.Sorted.{IsPermutation, IsSorted}
use Rattle.std.specs.Option.{option_cmp}
use Rattle.std.specs.Ordering.{is_eq, nat_cmp, ordering_reverse, ordering_then}
use Rattle.std.specs.declared.cmp.Ordering.{Ordering}
use Rattle.std.proofs.lemmas.Bool.{false≢true}
use Rattle.std.proofs.lemmas.List.Sorted.{All-permutation}
use Rattle.std.proofs.lemmas.Option.{slice_get-get_or}
use Rattle.line_split.specs.UsageLine.{UsageLine}
use Rattle.line_split.specs.declared.TheConstants.{MOST_AMOUNT}
use Rattle.usage_totals.specs.SoFar.{AreHashed, StandTogether, amount_at, in_order_of_hash, line_at, some_line}
use Rattle.usage_totals.specs.declared.by_key.Hashed.{Hashed}
use Rattle.usage_totals.proofs.SameGreatestLemmas.{key_tie}
use Rattle.usage_totals.proofs.TogetherLemmas.{TiesAreOfKeys, stand_together}

equal_is : (o : Ordering) → is_eq o ≡ true → o ≡ Equal
equal_is Less told = absurd (false≢true told)
equal_is Equal told = λ i. Equal
equal_is Greater told = absurd (false≢true told)

ties_with_itself : (o : Ordering) → o ≡ ordering_reverse o → o ≡ Equal
ties_with_itself Less same = absurd (cc)
ties_with_itself Equal same = λ i. Equal
ties_with_itself Greater same = absurd (cc)

module _ {K : Type 0} (eq : K → K → Bool) (laws : IsEquivalence eq) (cmp : K → K → Ordering) (total : IsTotalOrder cmp) (matches : (x y : K) → eq x y ≡ is_eq (cmp x y)) (key : UsageLine → K) (lines : List UsageLine) where
  abbrev order : Hashed → Hashed → Ordering
  order = in_order_of_hash cmp key lines

  pub is_order : IsTotalOrder order
  is_order = then_total (on_total (λ (h : Hashed). h.hash) nat_cmp_total) (on_total (λ (h : Hashed). option_map key (slice_get lines h.place)) (options_total total))

  module _ (places : List Hashed) (hashed : AreHashed eq key lines places) where
    ties : TiesAreOfKeys eq laws (amount_at key lines) order is_order places
    ties i j d one other =
        let x = get_or places i d in
        let y = get_or places j d in
        let kx = key (line_at lines x.place) in
        let ky = key (line_at lines y.place) in
        let x_at = slice_get-get_or lines x.place some_line (hashed.within i d one) in
        let y_at = slice_get-get_or lines y.place some_line (hashed.within j d other) in
        let keys : option_cmp cmp (option_map key (slice_get lines x.place)) (option_map key (slice_get lines y.place)) ≡ cmp kx ky = λ n. option_cmp cmp (option_map key (x_at n)) (option_map key (y_at n)) in (
          λ tie. matches kx ky ∙ ap is_eq (sym keys ∙ key_tie (nat_cmp x.hash y.hash) (option_cmp cmp (option_map key (slice_get lines x.place)) (option_map key (slice_get lines y.place))) tie),
          λ same.
              let hash : x.hash ≡ y.hash = hashed.each i d one ∙ hashed.alike kx ky same ∙ sym (hashed.each j d other) in
              let equal : cmp kx ky ≡ Equal = equal_is (cmp kx ky) (sym (matches kx ky) ∙ same) in
              let self : nat_cmp y.hash y.hash ≡ Equal = ties_with_itself (nat_cmp y.hash y.hash) (nat_cmp_total.antisymm y.hash y.hash) in
              (λ n. ordering_then (nat_cmp (hash n) y.hash) ((keys ∙ equal) n)) ∙ (λ n. ordering_then (self n) Equal),
        )

  pub brought_together : (places sorted : List Hashed) → IsPermutation places sorted → AreHashed eq key lines places → IsSorted order sorted → StandTogether eq (map (amount_at key lines) sorted)
  brought_together places sorted moved hashed up =
      let still : AreHashed eq key lines sorted = record {
        within = All-permutation (λ (h : Hashed). h.place < length lines) places sorted moved hashed.within;
        small = All-permutation (λ (h : Hashed). unsigned_abs h.amount ≤ MOST_AMOUNT) places sorted moved hashed.small;
        hash = hashed.hash;
        alike = hashed.alike;
        each = All-permutation (λ (h : Hashed). h.hash ≡ hashed.hash (key (line_at lines h.place))) places sorted moved hashed.each;
      } in
      stand_together eq laws (amount_at key lines) order is_order sorted (ties sorted still) up
