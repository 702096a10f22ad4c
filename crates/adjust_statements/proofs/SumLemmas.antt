-- What uses come to, as amounts are added.
use Rattle.std.proofs.Common.{◌≡◌, ◌∙◌, ◌+◌, ◌*◌, ◌≤◌, ◌+ℤ◌, ◌∷◌, [], ℕ, ℤ, pos, unsigned_abs, Bool, true, false, List, All, map, ap, refl, sym, arith}
use Rattle.std.specs.Prelude.{filter, if◌then◌else◌}
use Rattle.std.specs.Cmp.Lexicographic.{nat_list_cmp_total}
use Rattle.std.specs.List.{AllByRecursion}
use Rattle.std.specs.List.Sorted.{IsStrictlySortedBy}
use Rattle.std.specs.Ordering.{is_eq, match_ordering, ordering_reverse}
use Rattle.std.specs.Str.{bytes_eq}
use Rattle.std.specs.declared.cmp.Ordering.{Ordering}
use Rattle.std.specs.declared.cmp.Ordering.TheVariants.{Less, Equal, Greater}
use Rattle.std.proofs.lemmas.Int.{ints}
use Rattle.std.proofs.lemmas.List.Elements.{All-cons, All-head, All-nil, All-tail}
use Rattle.std.proofs.lemmas.Map.Text.{is_eq-slice_cmp}
use Rattle.std.proofs.lemmas.Slice.Eq.{bytes_eq-Decides}
use Rattle.line_split.specs.Signs.{int_sum_by}
use Rattle.line_split.proofs.IntSums.{int_sum_by-cons, none_plus, size_plus}
use Rattle.merge_statements.specs.SoFar.{order, total_of_portions}
use Rattle.merge_statements.specs.Statements.{IsName, Portion}
use Rattle.adjust_statements.specs.Differences.{sum_of}
use Rattle.adjust_statements.specs.SoFar.{AreSmall, with_sum}

abbrev pub uses_of : List Portion → List (List ℕ)
uses_of sums = map (λ sum. sum.usage) sums

abbrev pub the_sum : List ℕ → ℤ → Portion
the_sum usage amount = record { usage = usage; amount = amount }

-- ---- sums of a use

-- what a portion adds to the sum of a use
abbrev pub part : List ℕ → Portion → ℤ
part usage portion = if bytes_eq portion.usage usage then portion.amount else pos 0

kept_sum : (kept : Bool) (portion : Portion) (others : List Portion)
    → int_sum_by (λ (p : Portion). p.amount) (if kept then portion ∷ others else others) ≡ (if kept then portion.amount else pos 0) +ℤ int_sum_by (λ (p : Portion). p.amount) others
kept_sum true portion others = int_sum_by-cons (λ (p : Portion). p.amount) portion others
kept_sum false portion others = sym (none_plus (int_sum_by (λ (p : Portion). p.amount) others))

pub sum_of-cons : (usage : List ℕ) (portion : Portion) (others : List Portion) → sum_of usage (portion ∷ others) ≡ part usage portion +ℤ sum_of usage others
sum_of-cons usage portion others = kept_sum (bytes_eq portion.usage usage) portion (filter (λ p. bytes_eq p.usage usage) others)

level : (one other : List ℕ) → order one other ≡ Equal → one ≡ other
level one other is = (bytes_eq-Decides one other).0 (sym (is_eq-slice_cmp one other) ∙ ap is_eq is)

turned : (one other : List ℕ) → order one other ≡ Greater → order other one ≡ Less
turned one other is = nat_list_cmp_total.antisymm other one ∙ ap ordering_reverse is

swapped : (a b : ℤ) → a +ℤ b ≡ b +ℤ a
swapped a b = omega (arith, ints)

joined : (a b c : ℤ) → a +ℤ (b +ℤ c) ≡ (a +ℤ b) +ℤ c
joined a b c = omega (arith, ints)

moved : (a b c : ℤ) → (a +ℤ b) +ℤ c ≡ (a +ℤ c) +ℤ b
moved a b c = omega (arith, ints)

grown : (told : Bool) (was more rest : ℤ) → (if told then was +ℤ more else pos 0) +ℤ rest ≡ ((if told then was else pos 0) +ℤ rest) +ℤ (if told then more else pos 0)
grown true was more rest = moved was more rest
grown false was more rest = omega (arith, ints)

module _ (usage : List ℕ) (amount : ℤ) where
  -- what each use comes to
  pub with_sum_at : (sought : List ℕ) (sums : List Portion) → sum_of sought (with_sum usage amount sums) ≡ sum_of sought sums +ℤ part sought (the_sum usage amount)
  with_sum_at sought [] = sum_of-cons sought (the_sum usage amount) [] ∙ swapped (part sought (the_sum usage amount)) (pos 0)
  with_sum_at sought (sum ∷ sums) = on (order usage sum.usage) refl (with_sum_at sought sums)
    where
      on : (o : Ordering) → order usage sum.usage ≡ o → sum_of sought (with_sum usage amount sums) ≡ sum_of sought sums +ℤ part sought (the_sum usage amount)
          → sum_of sought (match_ordering o (the_sum usage amount ∷ sum ∷ sums) (the_sum sum.usage (sum.amount +ℤ amount) ∷ sums) (sum ∷ with_sum usage amount sums))
          ≡ sum_of sought (sum ∷ sums) +ℤ part sought (the_sum usage amount)
      on Less is later = sum_of-cons sought (the_sum usage amount) (sum ∷ sums) ∙ swapped (part sought (the_sum usage amount)) (sum_of sought (sum ∷ sums))
      on Equal is later =
          let one = level usage sum.usage is in
          sum_of-cons sought (the_sum sum.usage (sum.amount +ℤ amount)) sums
          ∙ grown (bytes_eq sum.usage sought) sum.amount amount (sum_of sought sums)
          ∙ (λ i. sym (sum_of-cons sought sum sums) i +ℤ (if bytes_eq (sym one i) sought then amount else pos 0))
      on Greater is later =
          sum_of-cons sought sum (with_sum usage amount sums)
          ∙ ap (λ (z : ℤ). part sought sum +ℤ z) later
          ∙ joined (part sought sum) (sum_of sought sums) (part sought (the_sum usage amount))
          ∙ ap (λ (z : ℤ). z +ℤ part sought (the_sum usage amount)) (sym (sum_of-cons sought sum sums))

  -- what all come to
  pub with_sum_total : (sums : List Portion) → total_of_portions (with_sum usage amount sums) ≡ total_of_portions sums +ℤ amount
  with_sum_total [] = int_sum_by-cons (λ (p : Portion). p.amount) (the_sum usage amount) [] ∙ swapped amount (pos 0)
  with_sum_total (sum ∷ sums) = on (order usage sum.usage) (with_sum_total sums)
    where
      first : (p : Portion) (others : List Portion) → total_of_portions (p ∷ others) ≡ p.amount +ℤ total_of_portions others
      first p others = int_sum_by-cons (λ (p : Portion). p.amount) p others

      on : (o : Ordering) → total_of_portions (with_sum usage amount sums) ≡ total_of_portions sums +ℤ amount
          → total_of_portions (match_ordering o (the_sum usage amount ∷ sum ∷ sums) (the_sum sum.usage (sum.amount +ℤ amount) ∷ sums) (sum ∷ with_sum usage amount sums))
          ≡ total_of_portions (sum ∷ sums) +ℤ amount
      on Less later = first (the_sum usage amount) (sum ∷ sums) ∙ swapped amount (total_of_portions (sum ∷ sums))
      on Equal later =
          first (the_sum sum.usage (sum.amount +ℤ amount)) sums
          ∙ moved sum.amount amount (total_of_portions sums)
          ∙ ap (λ (z : ℤ). z +ℤ amount) (sym (first sum sums))
      on Greater later =
          first sum (with_sum usage amount sums)
          ∙ ap (λ (z : ℤ). sum.amount +ℤ z) later
          ∙ joined sum.amount (total_of_portions sums) amount
          ∙ ap (λ (z : ℤ). z +ℤ amount) (sym (first sum sums))

  -- they stay in order
  pub all_after : (next : List ℕ) (names : List (List ℕ)) → order usage next ≡ Less → AllByRecursion (λ other. order next other ≡ Less) names → AllByRecursion (λ other. order usage other ≡ Less) names
  all_after next [] less after = tt
  all_after next (other ∷ names) less after = (nat_list_cmp_total.trans usage next other less after.0, all_after next names less after.1)

  with_sum_after : (name : List ℕ) (sums : List Portion) → order name usage ≡ Less → AllByRecursion (λ next. order name next ≡ Less) (uses_of sums)
      → AllByRecursion (λ next. order name next ≡ Less) (uses_of (with_sum usage amount sums))
  with_sum_after name [] less after = (less, tt)
  with_sum_after name (sum ∷ sums) less after = on (order usage sum.usage) (with_sum_after name sums less after.1)
    where
      on : (o : Ordering) → AllByRecursion (λ next. order name next ≡ Less) (uses_of (with_sum usage amount sums))
          → AllByRecursion (λ next. order name next ≡ Less) (uses_of (match_ordering o (the_sum usage amount ∷ sum ∷ sums) (the_sum sum.usage (sum.amount +ℤ amount) ∷ sums) (sum ∷ with_sum usage amount sums)))
      on Less later = (less, after)
      on Equal later = after
      on Greater later = (after.0, later)

  pub with_sum_rises : (sums : List Portion) → IsStrictlySortedBy order (uses_of sums) → IsStrictlySortedBy order (uses_of (with_sum usage amount sums))
  unfolding IsStrictlySortedBy
  with_sum_rises [] rising = (tt, tt)
  with_sum_rises (sum ∷ sums) rising = on (order usage sum.usage) refl (with_sum_rises sums rising.1)
    where
      on : (o : Ordering) → order usage sum.usage ≡ o → IsStrictlySortedBy order (uses_of (with_sum usage amount sums))
          → IsStrictlySortedBy order (uses_of (match_ordering o (the_sum usage amount ∷ sum ∷ sums) (the_sum sum.usage (sum.amount +ℤ amount) ∷ sums) (sum ∷ with_sum usage amount sums)))
      on Less is later = ((is, all_after sum.usage (uses_of sums) is rising.0), rising)
      on Equal is later = rising
      on Greater is later = (with_sum_after sum.usage sums (turned usage sum.usage is) rising.0, later)

  -- what holds of the old ones, of a new one, and of one that has grown
  pub with_sum_all : (P Q : Portion → Type 0) (sums : List Portion) → ((p : Portion) → P p → Q p) → Q (the_sum usage amount)
      → ((p : Portion) → P p → Q (the_sum p.usage (p.amount +ℤ amount))) → All P sums → All Q (with_sum usage amount sums)
  with_sum_all P Q [] stays begins grows all = All-cons Q (the_sum usage amount) [] begins (All-nil Q)
  with_sum_all P Q (sum ∷ sums) stays begins grows all =
      on (order usage sum.usage) (with_sum_all P Q sums stays begins grows (All-tail P sum sums all)) (every (sum ∷ sums) all)
    where
      every : (list : List Portion) → All P list → All Q list
      every [] are = All-nil Q
      every (p ∷ list) are = All-cons Q p list (stays p (All-head P p list are)) (every list (All-tail P p list are))

      on : (o : Ordering) → All Q (with_sum usage amount sums) → All Q (sum ∷ sums)
          → All Q (match_ordering o (the_sum usage amount ∷ sum ∷ sums) (the_sum sum.usage (sum.amount +ℤ amount) ∷ sums) (sum ∷ with_sum usage amount sums))
      on Less later same = All-cons Q (the_sum usage amount) (sum ∷ sums) begins same
      on Equal later same = All-cons Q (the_sum sum.usage (sum.amount +ℤ amount)) sums (grows sum (All-head P sum sums all)) (All-tail Q sum sums same)
      on Greater later same = All-cons Q sum (with_sum usage amount sums) (All-head Q sum sums same) later

  pub with_sum_small : (count : ℕ) (sums : List Portion) → unsigned_abs amount ≤ 1000000000000 → AreSmall count sums → AreSmall (count + 1) (with_sum usage amount sums)
  with_sum_small count sums small are =
      with_sum_all (λ p. unsigned_abs p.amount ≤ 1000000000000 * count) (λ p. unsigned_abs p.amount ≤ 1000000000000 * (count + 1)) sums
      (λ p is. omega (arith, is))
      (omega (arith, small))
      (λ p is. omega (arith, size_plus p.amount amount (1000000000000 * count) 1000000000000 is small))
      are

  pub with_sum_named : (sums : List Portion) → IsName usage → All (λ p. IsName p.usage) sums → All (λ p. IsName p.usage) (with_sum usage amount sums)
  with_sum_named sums name are = with_sum_all (λ p. IsName p.usage) (λ p. IsName p.usage) sums (λ p is. is) name (λ p is. is) are
