-- What uses come to: of lists together, of a list with its signs turned, and of lists in the order of their uses.
use Rattle.std.proofs.Common.{◌≡◌, ◌∙◌, ◌<◌, ◌+ℤ◌, ◌++◌, ◌∷◌, [], ℕ, ℤ, pos, unsigned_abs, Bool, true, false, List, All, map, ap, refl, sym, subst, arith}
use Rattle.std.specs.Prelude.{if◌then◌else◌, neg_ℤ}
use Rattle.std.specs.Cmp.Lexicographic.{nat_list_cmp_total}
use Rattle.std.specs.List.{AllByRecursion}
use Rattle.std.specs.List.Sorted.{IsStrictlySortedBy}
use Rattle.std.specs.Ordering.{is_eq, ordering_reverse}
use Rattle.std.specs.Str.{bytes_eq}
use Rattle.std.specs.declared.cmp.Ordering.{Ordering}
use Rattle.std.specs.declared.cmp.Ordering.TheVariants.{Less, Equal, Greater}
use Rattle.std.proofs.lemmas.Int.{ints}
use Rattle.std.proofs.lemmas.List.Elements.{All-head, All-tail}
use Rattle.std.proofs.lemmas.Map.Text.{is_eq-slice_cmp}
use Rattle.std.proofs.lemmas.Slice.Eq.{bytes_eq-Decides}
use Rattle.line_split.specs.Signs.{int_sum_by}
use Rattle.line_split.proofs.IntSums.{int_sum_by-append, int_sum_by-cons, none_plus, plus_none}
use Rattle.merge_statements.specs.SoFar.{order, total_of_portions}
use Rattle.merge_statements.specs.Statements.{Portion}
use Rattle.merge_statements.proofs.OneMerge.{all_after, differs}
use Rattle.adjust_statements.specs.Differences.{sum_of}
use Rattle.adjust_statements.specs.SoFar.{with_sum}
use Rattle.adjust_statements.proofs.SumLemmas.{part, sum_of-cons, uses_of, with_sum_at, with_sum_rises, with_sum_total}
use Rattle.adjustment_laws.specs.Turned.{turned_portion}

swapped : (a b : ℤ) → a +ℤ b ≡ b +ℤ a
swapped a b = omega (arith, ints)

joined : (a b c : ℤ) → a +ℤ (b +ℤ c) ≡ (a +ℤ b) +ℤ c
joined a b c = omega (arith, ints)

pub turned_sum : (a b : ℤ) → neg_ℤ a +ℤ neg_ℤ b ≡ neg_ℤ (a +ℤ b)
turned_sum a b = omega (arith, ints)

pub first_total : (portion : Portion) (others : List Portion) → total_of_portions (portion ∷ others) ≡ portion.amount +ℤ total_of_portions others
first_total portion others = int_sum_by-cons (λ (p : Portion). p.amount) portion others

-- ---- lists together

pub sum_of-append : (usage : List ℕ) (portions more : List Portion) → sum_of usage (portions ++ more) ≡ sum_of usage portions +ℤ sum_of usage more
sum_of-append usage [] more = sym (none_plus (sum_of usage more))
sum_of-append usage (portion ∷ portions) more =
    sum_of-cons usage portion (portions ++ more)
    ∙ ap (λ (z : ℤ). part usage portion +ℤ z) (sum_of-append usage portions more)
    ∙ joined (part usage portion) (sum_of usage portions) (sum_of usage more)
    ∙ ap (λ (z : ℤ). z +ℤ sum_of usage more) (sym (sum_of-cons usage portion portions))

pub total-append : (portions more : List Portion) → total_of_portions (portions ++ more) ≡ total_of_portions portions +ℤ total_of_portions more
total-append portions more = int_sum_by-append (λ (p : Portion). p.amount) portions more

-- ---- signs turned

pub turned_size : (amount : ℤ) → unsigned_abs (neg_ℤ amount) ≡ unsigned_abs amount
turned_size amount = omega (arith, ints)

turned_part : (told : Bool) (amount : ℤ) → (if told then neg_ℤ amount else pos 0) ≡ neg_ℤ (if told then amount else pos 0)
turned_part true amount = refl
turned_part false amount = refl

pub sum_of_turned : (usage : List ℕ) (portions : List Portion) → sum_of usage (map turned_portion portions) ≡ neg_ℤ (sum_of usage portions)
sum_of_turned usage [] = refl
sum_of_turned usage (portion ∷ portions) =
    sum_of-cons usage (turned_portion portion) (map turned_portion portions)
    ∙ (λ i. turned_part (bytes_eq portion.usage usage) portion.amount i +ℤ sum_of_turned usage portions i)
    ∙ turned_sum (part usage portion) (sum_of usage portions)
    ∙ ap neg_ℤ (sym (sum_of-cons usage portion portions))

-- what turned ones come to
pub sum_turned : {X : Type 0} (f : X → ℤ) (turn : X → X) → ((x : X) → f (turn x) ≡ neg_ℤ (f x)) → (xs : List X) → int_sum_by f (map turn xs) ≡ neg_ℤ (int_sum_by f xs)
sum_turned f turn turns [] = refl
sum_turned f turn turns (x ∷ xs) =
    int_sum_by-cons f (turn x) (map turn xs)
    ∙ (λ i. turns x i +ℤ sum_turned f turn turns xs i)
    ∙ turned_sum (f x) (int_sum_by f xs)
    ∙ ap neg_ℤ (sym (int_sum_by-cons f x xs))

pub total_turned : (portions : List Portion) → total_of_portions (map turned_portion portions) ≡ neg_ℤ (total_of_portions portions)
total_turned portions = sum_turned (λ (p : Portion). p.amount) turned_portion (λ p. refl) portions

-- ---- uses in order

-- a use that comes before all comes to nothing
none_before : (usage : List ℕ) (sums : List Portion) → AllByRecursion (λ next. order usage next ≡ Less) (uses_of sums) → sum_of usage sums ≡ pos 0
none_before usage [] after = refl
none_before usage (sum ∷ sums) after =
    sum_of-cons usage sum sums ∙ (λ i. (if differs usage sum.usage after.0 i then sum.amount else pos 0) +ℤ none_before usage sums after.1 i)

-- the first use comes to what is said of it
first_has : (sum : Portion) (sums : List Portion) → AllByRecursion (λ next. order sum.usage next ≡ Less) (uses_of sums) → sum_of sum.usage (sum ∷ sums) ≡ sum.amount
first_has sum sums after =
    sum_of-cons sum.usage sum sums
    ∙ (λ i. (if (bytes_eq-Decides sum.usage sum.usage).1 refl i then sum.amount else pos 0) +ℤ none_before sum.usage sums after i)
    ∙ plus_none sum.amount

nothing_more : (told : Bool) (a b : ℤ) → a ≡ pos 0 → (if told then a else pos 0) +ℤ b ≡ b
nothing_more true a b none = omega (arith, ints, none)
nothing_more false a b none = none_plus b

-- where each use comes to nothing, all come to nothing
none_in_all : (sums : List Portion) → IsStrictlySortedBy order (uses_of sums) → ((usage : List ℕ) → sum_of usage sums ≡ pos 0) → total_of_portions sums ≡ pos 0
unfolding IsStrictlySortedBy
none_in_all [] rising each = refl
none_in_all (sum ∷ sums) rising each =
    let none : sum.amount ≡ pos 0 = sym (first_has sum sums rising.0) ∙ each sum.usage in
    first_total sum sums
    ∙ (λ i. none i +ℤ none_in_all sums rising.1 (λ usage. sym (sum_of-cons usage sum sums ∙ nothing_more (bytes_eq sum.usage usage) sum.amount (sum_of usage sums) none) ∙ each usage) i)

-- portions, use by use in order
abbrev in_order : List Portion → List Portion
in_order [] = []
in_order (portion ∷ portions) = with_sum portion.usage portion.amount (in_order portions)

order_sum : (usage : List ℕ) (portions : List Portion) → sum_of usage (in_order portions) ≡ sum_of usage portions
order_sum usage [] = refl
order_sum usage (portion ∷ portions) =
    with_sum_at portion.usage portion.amount usage (in_order portions)
    ∙ ap (λ (z : ℤ). z +ℤ part usage portion) (order_sum usage portions)
    ∙ swapped (sum_of usage portions) (part usage portion)
    ∙ sym (sum_of-cons usage portion portions)

order_total : (portions : List Portion) → total_of_portions (in_order portions) ≡ total_of_portions portions
order_total [] = refl
order_total (portion ∷ portions) =
    with_sum_total portion.usage portion.amount (in_order portions)
    ∙ ap (λ (z : ℤ). z +ℤ portion.amount) (order_total portions)
    ∙ swapped (total_of_portions portions) portion.amount
    ∙ sym (first_total portion portions)

order_rises : (portions : List Portion) → IsStrictlySortedBy order (uses_of (in_order portions))
unfolding IsStrictlySortedBy
order_rises [] = tt
order_rises (portion ∷ portions) = with_sum_rises portion.usage portion.amount (in_order portions) (order_rises portions)

taken_off : (a b : ℤ) → a ≡ b → a +ℤ neg_ℤ b ≡ pos 0
taken_off a b same = omega (arith, ints, same)

left_same : (a b : ℤ) → a +ℤ neg_ℤ b ≡ pos 0 → a ≡ b
left_same a b none = omega (arith, ints, none)

-- where each use comes to the same, all come to the same
pub same_total : (portions others : List Portion) → ((usage : List ℕ) → sum_of usage portions ≡ sum_of usage others) → total_of_portions portions ≡ total_of_portions others
same_total portions others same =
    left_same (total_of_portions portions) (total_of_portions others) (
    ap (λ (z : ℤ). total_of_portions portions +ℤ z) (sym (total_turned others))
    ∙ sym (total-append portions (map turned_portion others))
    ∙ sym (order_total both)
    ∙ none_in_all (in_order both) (order_rises both) none
    )
  where
    both : List Portion
    both = portions ++ map turned_portion others

    none : (usage : List ℕ) → sum_of usage (in_order both) ≡ pos 0
    none usage =
        order_sum usage both
        ∙ sum_of-append usage portions (map turned_portion others)
        ∙ ap (λ (z : ℤ). sum_of usage portions +ℤ z) (sum_of_turned usage others)
        ∙ taken_off (sum_of usage portions) (sum_of usage others) (same usage)

-- ---- lists in order are known from what each use comes to

abbrev pub IsSome : Portion → Type 0
IsSome sum = 0 < unsigned_abs sum.amount

-- a use that comes to something is not missing
not_missing : (sum : Portion) (sums others : List Portion) → AllByRecursion (λ next. order sum.usage next ≡ Less) (uses_of sums)
    → AllByRecursion (λ next. order sum.usage next ≡ Less) (uses_of others) → IsSome sum
    → sum_of sum.usage (sum ∷ sums) ≡ sum_of sum.usage others → ⊥
not_missing sum sums others after missing some same =
    let none : sum.amount ≡ pos 0 = sym (first_has sum sums after) ∙ same ∙ none_before sum.usage others missing in
    omega (arith, some, ap unsigned_abs none)

-- what uses come to in the later ones, where the first are of one use
later_same : (first other : Portion) (sums others : List Portion) (usage : List ℕ) → first.usage ≡ other.usage
    → AllByRecursion (λ next. order first.usage next ≡ Less) (uses_of sums) → AllByRecursion (λ next. order other.usage next ≡ Less) (uses_of others)
    → sum_of usage (first ∷ sums) ≡ sum_of usage (other ∷ others) → sum_of usage sums ≡ sum_of usage others
later_same first other sums others usage one after behind same = on (bytes_eq first.usage usage) refl
  where
    on : (told : Bool) → bytes_eq first.usage usage ≡ told → sum_of usage sums ≡ sum_of usage others
    on true is =
        let own : first.usage ≡ usage = (bytes_eq-Decides first.usage usage).0 is in
        let its : other.usage ≡ usage = sym one ∙ own in
        none_before usage sums (subst (λ (u : List ℕ). AllByRecursion (λ next. order u next ≡ Less) (uses_of sums)) own after)
        ∙ sym (none_before usage others (subst (λ (u : List ℕ). AllByRecursion (λ next. order u next ≡ Less) (uses_of others)) its behind))
    on false is =
        let its : bytes_eq other.usage usage ≡ false = ap (λ (u : List ℕ). bytes_eq u usage) (sym one) ∙ is in
        rw (is, its) at same

-- two lists in order, in which every use comes to the same and none to nothing, are one
pub one_list : (sums others : List Portion) → IsStrictlySortedBy order (uses_of sums) → IsStrictlySortedBy order (uses_of others)
    → All IsSome sums → All IsSome others → ((usage : List ℕ) → sum_of usage sums ≡ sum_of usage others) → sums ≡ others
unfolding IsStrictlySortedBy
one_list [] [] rising rises some each same = refl
one_list [] (other ∷ others) rising rises some each same =
    absurd (not_missing other others [] rises.0 tt (All-head IsSome other others each) (sym (same other.usage)))
one_list (first ∷ sums) [] rising rises some each same =
    absurd (not_missing first sums [] rising.0 tt (All-head IsSome first sums some) (same first.usage))
one_list (first ∷ sums) (other ∷ others) rising rises some each same =
    on (order first.usage other.usage) refl (one_list sums others rising.1 rises.1 (All-tail IsSome first sums some) (All-tail IsSome other others each))
  where
    on : (told : Ordering) → order first.usage other.usage ≡ told
        → (((usage : List ℕ) → sum_of usage sums ≡ sum_of usage others) → sums ≡ others) → first ∷ sums ≡ other ∷ others
    on Less is later =
        absurd (not_missing first sums (other ∷ others) rising.0 (is, all_after first.usage other.usage (uses_of others) is rises.0)
        (All-head IsSome first sums some) (same first.usage))
    on Greater is later =
        let less : order other.usage first.usage ≡ Less = nat_list_cmp_total.antisymm other.usage first.usage ∙ ap ordering_reverse is in
        absurd (not_missing other others (first ∷ sums) rises.0 (less, all_after other.usage first.usage (uses_of sums) less rising.0)
        (All-head IsSome other others each) (sym (same other.usage)))
    on Equal is later =
        let one : first.usage ≡ other.usage = (bytes_eq-Decides first.usage other.usage).0 (sym (is_eq-slice_cmp first.usage other.usage) ∙ ap is_eq is) in
        let amount : first.amount ≡ other.amount =
        sym (first_has first sums rising.0) ∙ same first.usage ∙ ap (λ (u : List ℕ). sum_of u (other ∷ others)) one ∙ first_has other others rises.0 in
        let rest = later (λ usage. later_same first other sums others usage one rising.0 rises.0 (same usage)) in
        let here : first ≡ other = λ i. record { usage = one i; amount = amount i } in
        λ i. here i ∷ rest i
