-- The entries of a map are what uses come to.
use mir.Syntax.{w128, w64}
use mir.Val.{SFits}
use Rattle.std.proofs.Common.{to_z, of_z, ◌<◌, ◌^◌, ◌≡◌, ◌∙◌, ◌≤◌, ◌+ℤ◌, ◌∷◌, [], ℕ, ℤ, pos, unsigned_abs, Bool, true, false, List, Some, All, map, ap, refl, arith}
use Rattle.std.specs.Prelude.{Vec, if◌then◌else◌}
use Rattle.std.specs.declared.alloc.Global.{Global}
use Rattle.std.specs.BTreeMap.{insert_entry}
use Rattle.std.specs.List.{AllByRecursion}
use Rattle.std.specs.List.Sorted.{IsStrictlySortedBy}
use Rattle.std.specs.Map.{keys_of, lookup}
use Rattle.std.specs.Option.{unwrap_or}
use Rattle.std.specs.Ordering.{is_eq, match_ordering}
use Rattle.std.specs.declared.cmp.Ordering.{Ordering}
use Rattle.std.specs.declared.cmp.Ordering.TheVariants.{Less, Equal, Greater}
use Rattle.std.proofs.lemmas.Int.{fits_signed_from_abs, to_z-of_z}
use Rattle.std.proofs.lemmas.List.Elements.{All-head, All-tail}
use Rattle.line_split.proofs.IntSums.{none_plus, size_plus}
use Rattle.merge_statements.specs.SoFar.{order}
use Rattle.merge_statements.specs.Statements.{Portion}
use Rattle.adjust_statements.specs.SoFar.{value_at, with_sum}
use Rattle.adjust_statements.proofs.SumLemmas.{all_after, the_sum, uses_of}

pub value_small : (usage : List ℕ) (sums : List Portion) (most : ℕ) → All (λ sum. unsigned_abs sum.amount ≤ most) sums → unsigned_abs (value_at usage sums) ≤ most
value_small usage [] most small = omega arith
value_small usage (sum ∷ sums) most small =
    by (is_eq (order usage sum.usage)) (value_small usage sums most (All-tail (λ (s : Portion). unsigned_abs s.amount ≤ most) sum sums small))
  where
    by : (told : Bool) → unsigned_abs (value_at usage sums) ≤ most → unsigned_abs (if told then sum.amount else value_at usage sums) ≤ most
    by true later = All-head (λ (s : Portion). unsigned_abs s.amount ≤ most) sum sums small
    by false later = later

-- no use is nothing among those that come behind it
none_at : (usage : List ℕ) (sums : List Portion) → AllByRecursion (λ other. order usage other ≡ Less) (uses_of sums) → value_at usage sums ≡ pos 0
none_at usage [] after = refl
none_at usage (sum ∷ sums) after = rw (ap is_eq after.0) (none_at usage sums after.1)

module _ {K : Type 0} (text : K → List ℕ) where
  abbrev pub portions_in_map : List (K × ℤ) → List Portion
  portions_in_map entries = map (λ entry. record { usage = text entry.0; amount = entry.1 }) entries

  pub looked_up : (usage : List ℕ) (entries : List (K × ℤ)) → unwrap_or (lookup (λ key. is_eq (order usage (text key))) entries) (pos 0) ≡ value_at usage (portions_in_map entries)
  looked_up usage [] = refl
  looked_up usage (entry ∷ entries) = by (is_eq (order usage (text entry.0))) (looked_up usage entries)
    where
      by : (told : Bool) → unwrap_or (lookup (λ key. is_eq (order usage (text key))) entries) (pos 0) ≡ value_at usage (portions_in_map entries)
          → unwrap_or (if told then Some entry.1 else lookup (λ key. is_eq (order usage (text key))) entries) (pos 0) ≡ (if told then entry.1 else value_at usage (portions_in_map entries))
      by true later = refl
      by false later = later

  pub inserted : (key : K) (amount : ℤ) (entries : List (K × ℤ)) → IsStrictlySortedBy order (uses_of (portions_in_map entries))
      → portions_in_map (insert_entry (λ one other. order (text one) (text other)) entries key (value_at (text key) (portions_in_map entries) +ℤ amount)) ≡ with_sum (text key) amount (portions_in_map entries)
  unfolding IsStrictlySortedBy
  inserted key amount [] rising = ap (λ (z : ℤ). the_sum (text key) z ∷ []) (none_plus amount)
  inserted key amount (entry ∷ entries) rising = on (order (text key) (text entry.0)) refl (inserted key amount entries rising.1)
    where
      others : List Portion
      others = portions_in_map entries

      on : (o : Ordering) → order (text key) (text entry.0) ≡ o
          → portions_in_map (insert_entry (λ one other. order (text one) (text other)) entries key (value_at (text key) others +ℤ amount)) ≡ with_sum (text key) amount others
          → portions_in_map (match_ordering o ((key, (if is_eq o then entry.1 else value_at (text key) others) +ℤ amount) ∷ entry ∷ entries)
          ((entry.0, (if is_eq o then entry.1 else value_at (text key) others) +ℤ amount) ∷ entries)
          (entry ∷ insert_entry (λ one other. order (text one) (text other)) entries key ((if is_eq o then entry.1 else value_at (text key) others) +ℤ amount)))
          ≡ match_ordering o (the_sum (text key) amount ∷ the_sum (text entry.0) entry.1 ∷ others) (the_sum (text entry.0) (entry.1 +ℤ amount) ∷ others) (the_sum (text entry.0) entry.1 ∷ with_sum (text key) amount others)
      on Less is later =
          let none = none_at (text key) others (all_after (text key) amount (text entry.0) (uses_of others) is rising.0) in
          (λ i. the_sum (text key) (none i +ℤ amount) ∷ the_sum (text entry.0) entry.1 ∷ others) ∙ ap (λ (z : ℤ). the_sum (text key) z ∷ the_sum (text entry.0) entry.1 ∷ others) (none_plus amount)
      on Equal is later = refl
      on Greater is later = ap (λ (l : List Portion). the_sum (text entry.0) entry.1 ∷ l) later

  pub rising_uses : (entries : List (K × ℤ)) → IsStrictlySortedBy (λ one other. order (text one) (text other)) (keys_of entries) → IsStrictlySortedBy order (uses_of (portions_in_map entries))
  unfolding IsStrictlySortedBy
  rising_uses [] rising = tt
  rising_uses (entry ∷ entries) rising = (after entries rising.0, rising_uses entries rising.1)
    where
      after : (entries : List (K × ℤ)) → AllByRecursion (λ other. order (text entry.0) (text other) ≡ Less) (keys_of entries) → AllByRecursion (λ other. order (text entry.0) other ≡ Less) (uses_of (portions_in_map entries))
      after [] are = tt
      after (next ∷ entries) are = (are.0, after entries are.1)

-- the bytes of a vector, which a map has for a key
abbrev pub items_of : Vec ℕ Global → List ℕ
items_of vector = vector.items

-- ---- sums in 128 bits

pub same_in_64 : (z : ℤ) → unsigned_abs z < 2 ^ 63 → to_z w64 (of_z w64 z) ≡ z
same_in_64 z small = to_z-of_z w64 z (fits_signed_from_abs w64 z small)

pub same_in_128 : (z : ℤ) → unsigned_abs z < 2 ^ 127 → to_z w128 (of_z w128 z) ≡ z
same_in_128 z small = to_z-of_z w128 z (fits_signed_from_abs w128 z small)

pub fits_128 : (a b : ℤ) → unsigned_abs a ≤ 10 ^ 36 → unsigned_abs b ≤ 10 ^ 36 → SFits w128 (to_z w128 (of_z w128 a) +ℤ to_z w128 (of_z w128 b))
fits_128 a b small more =
    rw (same_in_128 a (omega (arith, small)), same_in_128 b (omega (arith, more)))
    (fits_signed_from_abs w128 (a +ℤ b) (omega (arith, size_plus a b (10 ^ 36) (10 ^ 36) small more)))

pub sum_128 : (a b : ℤ) → unsigned_abs a ≤ 10 ^ 36 → unsigned_abs b ≤ 10 ^ 36 → to_z w128 (of_z w128 (to_z w128 (of_z w128 a) +ℤ to_z w128 (of_z w128 b))) ≡ a +ℤ b
sum_128 a b small more =
    ap (λ (z : ℤ). to_z w128 (of_z w128 z)) (λ i. same_in_128 a (omega (arith, small)) i +ℤ same_in_128 b (omega (arith, more)) i)
    ∙ same_in_128 (a +ℤ b) (omega (arith, size_plus a b (10 ^ 36) (10 ^ 36) small more))

-- the same of a sum that is kept
pub fits_more : (a b : ℤ) → unsigned_abs a ≤ 10 ^ 36 → unsigned_abs b ≤ 10 ^ 36 → SFits w128 (a +ℤ to_z w128 (of_z w128 b))
fits_more a b small more =
    rw (same_in_128 b (omega (arith, more))) (fits_signed_from_abs w128 (a +ℤ b) (omega (arith, size_plus a b (10 ^ 36) (10 ^ 36) small more)))

pub sum_more : (a b : ℤ) → unsigned_abs a ≤ 10 ^ 36 → unsigned_abs b ≤ 10 ^ 36 → to_z w128 (of_z w128 (a +ℤ to_z w128 (of_z w128 b))) ≡ a +ℤ b
sum_more a b small more =
    ap (λ (z : ℤ). to_z w128 (of_z w128 (a +ℤ z))) (same_in_128 b (omega (arith, more)))
    ∙ same_in_128 (a +ℤ b) (omega (arith, size_plus a b (10 ^ 36) (10 ^ 36) small more))
