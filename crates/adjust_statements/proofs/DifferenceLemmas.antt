-- Differences as rows.
use Rattle.std.proofs.Common.{inl, inr, ◌≡◌, ◌∙◌, ◌+◌, ◌*◌, ◌≤◌, ◌<◌, ◌+ℤ◌, ◌++◌, ◌∷◌, [], ℕ, zero, suc, ℤ, pos, unsigned_abs, Bool, true, false, List, All, length, map, ap, refl, sym, subst, arith}
use Rattle.std.specs.Prelude.{◌⊎◌, ◌/◌, ◌%◌, filter, flat_map, if◌then◌else◌, nat_lt, replicate}
use Rattle.std.specs.List.Sorted.{IsStrictlySortedBy}
use Rattle.std.specs.List.{AllByRecursion}
use Rattle.std.specs.Str.{bytes_eq}
use Rattle.std.specs.Ordering.{match_ordering}
use Rattle.std.specs.declared.cmp.Ordering.{Ordering}
use Rattle.std.specs.declared.cmp.Ordering.TheVariants.{Less, Equal, Greater}
use Rattle.std.proofs.lemmas.Bool.{lt-ltb, ltb-false, ltb-true}
use Rattle.std.proofs.lemmas.Int.{ints}
use Rattle.std.proofs.lemmas.List.{length-append, length-map, length-replicate}
use Rattle.std.proofs.lemmas.List.Elements.{All-append, All-cons, All-head, All-nil, All-tail}
use Rattle.line_split.specs.Signs.{with_sign_of}
use Rattle.line_split.proofs.IntSums.{int_sum_by-append, int_sum_by-cons, none_plus, plus_none, size_plus}
use Rattle.line_split.proofs.Signs.{no_sign, own_sign, sign_adds, size_of_signed}
use Rattle.merge_statements.specs.SoFar.{order, total_of_portions}
use Rattle.merge_statements.specs.Statements.{IsName, IsPortion, Portion}
use Rattle.adjust_statements.specs.Differences.{AreRowsOfDifferences, row_holds, rows_of, sizes_of, sum_of}
use Rattle.adjust_statements.specs.SoFar.{AreSums, with_sum}
use Rattle.adjust_statements.proofs.SumLemmas.{part, sum_of-cons, the_sum, uses_of}

-- ---- the sizes of rows

abbrev pub left_sizes : ℕ → List ℕ
left_sizes left = filter (nat_lt 0) (left ∷ [])

-- a row for what is left, if anything is
pub left_is : (left : ℕ) → ((left ≡ 0) × (left_sizes left ≡ [])) ⊎ ((0 < left) × (left_sizes left ≡ left ∷ []))
left_is zero = inl (refl, refl)
left_is (suc left) = let some : nat_lt 0 (suc left) ≡ true = lt-ltb 0 (suc left) (omega arith) in inr (omega arith, rw some refl)

-- how many rows a size takes
abbrev pub count_of : ℕ → ℕ
count_of size = length (sizes_of size)

pub rows_enough : (size : ℕ) → (size ≤ 1000000000000 * length (sizes_of size)) × (1000000000000 * length (sizes_of size) < size + 1000000000000)
rows_enough size =
    let count = length-append (replicate (size / row_holds) row_holds) (left_sizes (size % row_holds)) in
    let full = length-replicate (size / row_holds) row_holds in
    elim (left_is (size % row_holds)) [
      | inl (none, is) ↦ let few = ap length is in (omega (arith, count, full, few, none), omega (arith, count, full, few, none))
      | inr (some, is) ↦ let few = ap length is in (omega (arith, count, full, few, some), omega (arith, count, full, few, some))
    ]

-- a size that is larger by one row at most takes one row more at most
pub rows_more : (size more : ℕ) → more ≤ size + 1000000000000 → count_of more ≤ count_of size + 1
rows_more size more within =
    let was = rows_enough size in
    let now = rows_enough more in
    omega (arith, was.0, now.1, within)

-- what sizes come to
abbrev added : List ℕ → ℕ
added [] = 0
added (size ∷ sizes) = size + added sizes

added-append : (sizes more : List ℕ) → added (sizes ++ more) ≡ added sizes + added more
added-append [] more = omega arith
added-append (size ∷ sizes) more = omega (arith, added-append sizes more)

added-replicate : (count : ℕ) → added (replicate count row_holds) ≡ count * 1000000000000
added-replicate zero = refl
added-replicate (suc count) = omega (arith, added-replicate count)

sizes_add : (size : ℕ) → added (sizes_of size) ≡ size
sizes_add size =
    let full = added-replicate (size / row_holds) in
    let both = added-append (replicate (size / row_holds) row_holds) (left_sizes (size % row_holds)) in
    elim (left_is (size % row_holds)) [
      | inl (none, is) ↦ let few = ap added is in omega (arith, both, full, few, none)
      | inr (some, is) ↦ let few = ap added is in omega (arith, both, full, few, some)
    ]

abbrev IsRowSize : ℕ → Type 0
IsRowSize size = (0 < size) × (size ≤ 1000000000000)

full_sizes : (count : ℕ) → All IsRowSize (replicate count row_holds)
full_sizes zero = All-nil IsRowSize
full_sizes (suc count) = All-cons IsRowSize row_holds (replicate count row_holds) (omega arith, omega arith) (full_sizes count)

all_sizes : (size : ℕ) → All IsRowSize (sizes_of size)
all_sizes size = All-append IsRowSize (replicate (size / row_holds) row_holds) (left_sizes (size % row_holds)) (full_sizes (size / row_holds)) (left (left_is (size % row_holds)))
  where
    left : ((size % row_holds ≡ 0) × (left_sizes (size % row_holds) ≡ [])) ⊎ ((0 < size % row_holds) × (left_sizes (size % row_holds) ≡ size % row_holds ∷ [])) → All IsRowSize (left_sizes (size % row_holds))
    left (inl (none, is)) = subst (All IsRowSize) (sym is) (All-nil IsRowSize)
    left (inr (some, is)) = subst (All IsRowSize) (sym is) (All-cons IsRowSize (size % row_holds) [] (some, omega arith) (All-nil IsRowSize))

-- ---- the rows of a difference

abbrev row_with : Portion → ℕ → Portion
row_with difference size = record { usage = difference.usage; amount = with_sign_of difference.amount size }

pub rows_count : (difference : Portion) → length (rows_of difference) ≡ count_of (unsigned_abs difference.amount)
rows_count difference = length-map (sizes_of (unsigned_abs difference.amount)) (row_with difference)

signed_sizes : (difference : Portion) (sizes : List ℕ) → total_of_portions (map (row_with difference) sizes) ≡ with_sign_of difference.amount (added sizes)
signed_sizes difference [] = sym (no_sign difference.amount)
signed_sizes difference (size ∷ sizes) =
    int_sum_by-cons (λ (p : Portion). p.amount) (row_with difference size) (map (row_with difference) sizes)
    ∙ ap (λ (z : ℤ). with_sign_of difference.amount size +ℤ z) (signed_sizes difference sizes)
    ∙ sign_adds difference.amount size (added sizes)

-- they come to it
pub rows_total : (difference : Portion) → total_of_portions (rows_of difference) ≡ difference.amount
rows_total difference =
    signed_sizes difference (sizes_of (unsigned_abs difference.amount))
    ∙ ap (with_sign_of difference.amount) (sizes_add (unsigned_abs difference.amount))
    ∙ own_sign difference.amount

rows_with_sound : (difference : Portion) (sizes : List ℕ) → IsName difference.usage → All IsRowSize sizes → All IsPortion (map (row_with difference) sizes)
rows_with_sound difference [] name are = All-nil IsPortion
rows_with_sound difference (size ∷ sizes) name are =
    let here = All-head IsRowSize size sizes are in
    let is = size_of_signed difference.amount size in
    All-cons IsPortion (row_with difference size) (map (row_with difference) sizes) (name, (omega (arith, here.0, is), omega (arith, here.1, is)))
    (rows_with_sound difference sizes name (All-tail IsRowSize size sizes are))

pub rows_sound : (difference : Portion) → IsName difference.usage → All IsPortion (rows_of difference)
rows_sound difference name = rows_with_sound difference (sizes_of (unsigned_abs difference.amount)) name (all_sizes (unsigned_abs difference.amount))

-- no difference has no row
rows_of_none : (difference : Portion) → unsigned_abs difference.amount ≡ 0 → rows_of difference ≡ []
rows_of_none difference none = ap (λ (size : ℕ). map (row_with difference) (sizes_of size)) none

-- ---- the rows of many

pub all_rows_total : (differences : List Portion) → total_of_portions (flat_map rows_of differences) ≡ total_of_portions differences
all_rows_total [] = refl
all_rows_total (difference ∷ differences) =
    int_sum_by-append (λ (p : Portion). p.amount) (rows_of difference) (flat_map rows_of differences)
    ∙ (λ i. rows_total difference i +ℤ all_rows_total differences i)
    ∙ sym (int_sum_by-cons (λ (p : Portion). p.amount) difference differences)

pub all_rows_sound : (differences : List Portion) → All (λ d. IsName d.usage) differences → All IsPortion (flat_map rows_of differences)
all_rows_sound [] named = All-nil IsPortion
all_rows_sound (difference ∷ differences) named =
    All-append IsPortion (rows_of difference) (flat_map rows_of differences)
    (rows_sound difference (All-head (λ (d : Portion). IsName d.usage) difference differences named))
    (all_rows_sound differences (All-tail (λ (d : Portion). IsName d.usage) difference differences named))

abbrev pub count_of_rows : List Portion → ℕ
count_of_rows differences = length (flat_map rows_of differences)

pub rows-cons : (difference : Portion) (differences : List Portion) → count_of_rows (difference ∷ differences) ≡ count_of (unsigned_abs difference.amount) + count_of_rows differences
rows-cons difference differences = omega (arith, length-append (rows_of difference) (flat_map rows_of differences), rows_count difference)

-- no difference is larger than all rows hold
pub all_within : (differences : List Portion) (most : ℕ) → count_of_rows differences ≤ most → All (λ d. unsigned_abs d.amount ≤ 1000000000000 * most) differences
all_within [] most few = All-nil (λ (d : Portion). unsigned_abs d.amount ≤ 1000000000000 * most)
all_within (difference ∷ differences) most few =
    let all = rows-cons difference differences in
    All-cons (λ (d : Portion). unsigned_abs d.amount ≤ 1000000000000 * most) difference differences
    (omega (arith, (rows_enough (unsigned_abs difference.amount)).0, all, few))
    (all_within differences most (omega (arith, all, few)))

-- nor what all come to
pub totals_small : (differences : List Portion) → unsigned_abs (total_of_portions differences) ≤ 1000000000000 * count_of_rows differences
totals_small [] = omega arith
totals_small (difference ∷ differences) =
    let here = (rows_enough (unsigned_abs difference.amount)).0 in
    let both = size_plus difference.amount (total_of_portions differences) (1000000000000 * count_of (unsigned_abs difference.amount)) (1000000000000 * count_of_rows differences) here (totals_small differences) in
    omega (arith, both, rows-cons difference differences, ap unsigned_abs (int_sum_by-cons (λ (p : Portion). p.amount) difference differences))

-- the rows of a use come to what its differences come to
kept_rows : (usage : List ℕ) (difference : Portion) (sizes : List ℕ) (told : Bool) → bytes_eq difference.usage usage ≡ told
    → sum_of usage (map (row_with difference) sizes) ≡ (if told then total_of_portions (map (row_with difference) sizes) else pos 0)
kept_rows usage difference [] true is = refl
kept_rows usage difference [] false is = refl
kept_rows usage difference (size ∷ sizes) told is =
    sum_of-cons usage (row_with difference size) (map (row_with difference) sizes)
    ∙ (λ i. (if is i then with_sign_of difference.amount size else pos 0) +ℤ kept_rows usage difference sizes told is i)
    ∙ by told
  where
    by : (told : Bool) → (if told then with_sign_of difference.amount size else pos 0) +ℤ (if told then total_of_portions (map (row_with difference) sizes) else pos 0)
        ≡ (if told then total_of_portions (row_with difference size ∷ map (row_with difference) sizes) else pos 0)
    by true = sym (int_sum_by-cons (λ (p : Portion). p.amount) (row_with difference size) (map (row_with difference) sizes))
    by false = refl

sum_of-append : (usage : List ℕ) (portions more : List Portion) → sum_of usage (portions ++ more) ≡ sum_of usage portions +ℤ sum_of usage more
sum_of-append usage [] more = sym (none_plus (sum_of usage more))
sum_of-append usage (portion ∷ portions) more =
    sum_of-cons usage portion (portions ++ more)
    ∙ ap (λ (z : ℤ). part usage portion +ℤ z) (sum_of-append usage portions more)
    ∙ joined (part usage portion) (sum_of usage portions) (sum_of usage more)
    ∙ ap (λ (z : ℤ). z +ℤ sum_of usage more) (sym (sum_of-cons usage portion portions))
  where
    joined : (a b c : ℤ) → a +ℤ (b +ℤ c) ≡ (a +ℤ b) +ℤ c
    joined a b c = omega (arith, ints)

pub all_rows_sum : (usage : List ℕ) (differences : List Portion) → sum_of usage (flat_map rows_of differences) ≡ sum_of usage differences
all_rows_sum usage [] = refl
all_rows_sum usage (difference ∷ differences) =
    sum_of-append usage (rows_of difference) (flat_map rows_of differences)
    ∙ (λ i. its i +ℤ all_rows_sum usage differences i)
    ∙ sym (sum_of-cons usage difference differences)
  where
    its : sum_of usage (rows_of difference) ≡ part usage difference
    its = kept_rows usage difference (sizes_of (unsigned_abs difference.amount)) (bytes_eq difference.usage usage) refl
        ∙ ap (λ (z : ℤ). if bytes_eq difference.usage usage then z else pos 0) (rows_total difference)

-- ---- an amount more takes one row more at most

pub with_sum_few : (usage : List ℕ) (amount : ℤ) (sums : List Portion) → unsigned_abs amount ≤ 1000000000000
    → count_of_rows (with_sum usage amount sums) ≤ count_of_rows sums + 1
with_sum_few usage amount [] small = omega (arith, rows-cons (the_sum usage amount) [], rows_more 0 (unsigned_abs amount) (omega (arith, small)))
with_sum_few usage amount (sum ∷ sums) small = on (order usage sum.usage) (with_sum_few usage amount sums small)
  where
    on : (o : Ordering) → count_of_rows (with_sum usage amount sums) ≤ count_of_rows sums + 1
        → count_of_rows (match_ordering o (the_sum usage amount ∷ sum ∷ sums) (the_sum sum.usage (sum.amount +ℤ amount) ∷ sums) (sum ∷ with_sum usage amount sums))
        ≤ count_of_rows (sum ∷ sums) + 1
    on Less later = omega (arith, rows-cons (the_sum usage amount) (sum ∷ sums), rows_more 0 (unsigned_abs amount) (omega (arith, small)))
    on Equal later =
        let grown = size_plus sum.amount amount (unsigned_abs sum.amount) 1000000000000 (omega arith) small in
        omega (arith, rows-cons (the_sum sum.usage (sum.amount +ℤ amount)) sums, rows-cons sum sums, rows_more (unsigned_abs sum.amount) (unsigned_abs (sum.amount +ℤ amount)) grown)
    on Greater later = omega (arith, rows-cons sum (with_sum usage amount sums), rows-cons sum sums, later)

-- ---- sums that are nothing are left out

abbrev is_some : Portion → Bool
is_some sum = nat_lt 0 (unsigned_abs sum.amount)

nothing : (sum : Portion) → is_some sum ≡ false → unsigned_abs sum.amount ≡ 0
nothing sum is = let none = ltb-false 0 (unsigned_abs sum.amount) is in omega (arith, none)

some_after : (name : List ℕ) (sums : List Portion) → AllByRecursion (λ next. order name next ≡ Less) (uses_of sums) → AllByRecursion (λ next. order name next ≡ Less) (uses_of (filter is_some sums))
some_after name [] after = tt
some_after name (sum ∷ sums) after = on (is_some sum) (some_after name sums after.1)
  where
    on : (told : Bool) → AllByRecursion (λ next. order name next ≡ Less) (uses_of (filter is_some sums)) → AllByRecursion (λ next. order name next ≡ Less) (uses_of (if told then sum ∷ filter is_some sums else filter is_some sums))
    on true later = (after.0, later)
    on false later = later

some_rise : (sums : List Portion) → IsStrictlySortedBy order (uses_of sums) → IsStrictlySortedBy order (uses_of (filter is_some sums))
unfolding IsStrictlySortedBy
some_rise [] rising = tt
some_rise (sum ∷ sums) rising = on (is_some sum) (some_rise sums rising.1)
  where
    on : (told : Bool) → IsStrictlySortedBy order (uses_of (filter is_some sums)) → IsStrictlySortedBy order (uses_of (if told then sum ∷ filter is_some sums else filter is_some sums))
    on true later = (some_after sum.usage sums rising.0, later)
    on false later = later

all_some : (sums : List Portion) → All (λ sum. 0 < unsigned_abs sum.amount) (filter is_some sums)
all_some [] = All-nil (λ (sum : Portion). 0 < unsigned_abs sum.amount)
all_some (sum ∷ sums) = on (is_some sum) refl (all_some sums)
  where
    on : (told : Bool) → is_some sum ≡ told → All (λ s. 0 < unsigned_abs s.amount) (filter is_some sums) → All (λ s. 0 < unsigned_abs s.amount) (if told then sum ∷ filter is_some sums else filter is_some sums)
    on true is later = All-cons (λ (s : Portion). 0 < unsigned_abs s.amount) sum (filter is_some sums) (ltb-true 0 (unsigned_abs sum.amount) is) later
    on false is later = later

some_sum : (usage : List ℕ) (sums : List Portion) → sum_of usage (filter is_some sums) ≡ sum_of usage sums
some_sum usage [] = refl
some_sum usage (sum ∷ sums) = on (is_some sum) refl (some_sum usage sums) ∙ sym (sum_of-cons usage sum sums)
  where
    none : (told : Bool) (amount : ℤ) → unsigned_abs amount ≡ 0 → (if told then amount else pos 0) ≡ pos 0
    none true amount is = omega (arith, ints, is)
    none false amount is = refl

    on : (told : Bool) → is_some sum ≡ told → sum_of usage (filter is_some sums) ≡ sum_of usage sums
        → sum_of usage (if told then sum ∷ filter is_some sums else filter is_some sums) ≡ part usage sum +ℤ sum_of usage sums
    on true is later = sum_of-cons usage sum (filter is_some sums) ∙ ap (λ (z : ℤ). part usage sum +ℤ z) later
    on false is later = later ∙ (sym (none_plus (sum_of usage sums)) ∙ (λ i. sym (none (bytes_eq sum.usage usage) sum.amount (nothing sum is)) i +ℤ sum_of usage sums))

some_rows : (sums : List Portion) → flat_map rows_of sums ≡ flat_map rows_of (filter is_some sums)
some_rows [] = refl
some_rows (sum ∷ sums) = on (is_some sum) refl (some_rows sums)
  where
    on : (told : Bool) → is_some sum ≡ told → flat_map rows_of sums ≡ flat_map rows_of (filter is_some sums)
        → flat_map rows_of (sum ∷ sums) ≡ flat_map rows_of (if told then sum ∷ filter is_some sums else filter is_some sums)
    on true is later = ap (λ (rows : List Portion). rows_of sum ++ rows) later
    on false is later = (λ i. rows_of_none sum (nothing sum is) i ++ later i)

pub rows_from_sums : (paid right sums : List Portion) → AreSums paid right sums → AreRowsOfDifferences paid right (flat_map rows_of sums)
rows_from_sums paid right sums are = record {
  differences = filter is_some sums;
  are = record {
    rising = some_rise sums are.rising;
    some = all_some sums;
    each = λ usage. ap (λ (z : ℤ). sum_of usage paid +ℤ z) (some_sum usage sums) ∙ are.each usage;
  };
  all = some_rows sums;
}

-- equal portions have no differences
pub no_rows : (portions : List Portion) → AreRowsOfDifferences portions portions []
unfolding IsStrictlySortedBy
no_rows portions = record {
  differences = [];
  are = record {
    rising = tt;
    some = All-nil (λ (difference : Portion). 0 < unsigned_abs difference.amount);
    each = λ usage. plus_none (sum_of usage portions);
  };
  all = refl;
}
