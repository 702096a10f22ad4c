-- The rows of differences.
use Rattle.std.proofs.Common.{◌≡◌, ◌∙◌, ◌+ℤ◌, ◌++◌, ◌∷◌, [], ℕ, ℤ, zero, suc, pos, negsuc, unsigned_abs, List, All, map, ap, refl, sym, subst, arith}
use Rattle.std.specs.Prelude.{flat_map, neg_ℤ}
use Rattle.std.specs.List.Sorted.{IsStrictlySortedBy}
use Rattle.std.proofs.lemmas.Int.{ints}
use Rattle.std.proofs.lemmas.List.{map-append}
use Rattle.std.proofs.lemmas.List.Elements.{All-cons, All-head, All-nil, All-tail}
use Rattle.line_split.specs.Signs.{with_sign_of}
use Rattle.merge_statements.specs.SoFar.{order, total_of_portions}
use Rattle.merge_statements.specs.Statements.{Portion}
use Rattle.adjust_statements.specs.Differences.{AreDifferences, AreRowsOfDifferences, rows_of, sizes_of, sum_of}
use Rattle.adjust_statements.proofs.DifferenceLemmas.{all_rows_sum}
use Rattle.adjust_statements.proofs.SumLemmas.{uses_of}
use Rattle.adjustment_laws.specs.Turned.{turned_portion}
use Rattle.adjustment_laws.proofs.Uses.{IsSome, one_list, same_total, sum_of-append, sum_of_turned, total-append, turned_size}

module _ (paid right rows : List Portion) where
  -- what was paid of a use and its rows come to what is right
  pub rows_sum : (usage : List ℕ) → AreRowsOfDifferences paid right rows → sum_of usage paid +ℤ sum_of usage rows ≡ sum_of usage right
  rows_sum usage are =
      ap (λ (z : ℤ). sum_of usage paid +ℤ z) (ap (sum_of usage) are.all ∙ all_rows_sum usage are.differences) ∙ are.are.each usage

  pub with_rows_sum : (usage : List ℕ) → AreRowsOfDifferences paid right rows → sum_of usage (paid ++ rows) ≡ sum_of usage right
  with_rows_sum usage are = sum_of-append usage paid rows ∙ rows_sum usage are

  -- and in all
  pub with_rows_total : AreRowsOfDifferences paid right rows → total_of_portions (paid ++ rows) ≡ total_of_portions right
  with_rows_total are = same_total (paid ++ rows) right (λ usage. with_rows_sum usage are)

  pub rows_come_to : AreRowsOfDifferences paid right rows → total_of_portions paid +ℤ total_of_portions rows ≡ total_of_portions right
  rows_come_to are = sym (total-append paid rows) ∙ with_rows_total are

-- ---- the rows are one list

pub cancelled : (a b c d : ℤ) → a +ℤ b ≡ c → a +ℤ d ≡ c → b ≡ d
cancelled a b c d one other = omega (arith, ints, one, other)

one_differences : (paid right differences others : List Portion) → AreDifferences paid right differences → AreDifferences paid right others → differences ≡ others
one_differences paid right differences others are of =
    one_list differences others are.rising of.rising are.some of.some
    (λ usage. cancelled (sum_of usage paid) (sum_of usage differences) (sum_of usage right) (sum_of usage others) (are.each usage) (of.each usage))

pub one_rows : (paid right rows others : List Portion) → AreRowsOfDifferences paid right rows → AreRowsOfDifferences paid right others → rows ≡ others
one_rows paid right rows others are of =
    are.all ∙ ap (flat_map rows_of) (one_differences paid right are.differences of.differences are.are of.are) ∙ sym of.all

-- ---- signs turned

abbrev turned_portions : List Portion → List Portion
turned_portions portions = map turned_portion portions

same_uses : (differences : List Portion) → uses_of (turned_portions differences) ≡ uses_of differences
same_uses [] = refl
same_uses (difference ∷ differences) = ap (λ (l : List (List ℕ)). difference.usage ∷ l) (same_uses differences)

turned_some : (differences : List Portion) → All IsSome differences → All IsSome (turned_portions differences)
turned_some [] some = All-nil IsSome
turned_some (difference ∷ differences) some =
    All-cons IsSome (turned_portion difference) (turned_portions differences)
    (omega (arith, turned_size difference.amount, All-head IsSome difference differences some))
    (turned_some differences (All-tail IsSome difference differences some))

-- the sizes of rows, with the sign of an amount
abbrev rows_with : List ℕ → ℤ → List ℕ → List Portion
rows_with usage amount sizes = map (λ size. record { usage = usage; amount = with_sign_of amount size }) sizes

turned_with : (usage : List ℕ) (amount : ℤ) (sizes : List ℕ) → ((size : ℕ) → neg_ℤ (with_sign_of amount size) ≡ with_sign_of (neg_ℤ amount) size)
    → turned_portions (rows_with usage amount sizes) ≡ rows_with usage (neg_ℤ amount) sizes
turned_with usage amount [] turns = refl
turned_with usage amount (size ∷ sizes) turns = λ i. record { usage = usage; amount = turns size i } ∷ turned_with usage amount sizes turns i

twice : (size : ℕ) → neg_ℤ (neg_ℤ (pos size)) ≡ pos size
twice size = omega (arith, ints)

turned_rows_with : (usage : List ℕ) (amount : ℤ)
    → turned_portions (rows_with usage amount (sizes_of (unsigned_abs amount))) ≡ rows_with usage (neg_ℤ amount) (sizes_of (unsigned_abs (neg_ℤ amount)))
turned_rows_with usage (pos zero) = refl
turned_rows_with usage (pos (suc n)) = turned_with usage (pos (suc n)) (sizes_of (suc n)) (λ size. refl)
turned_rows_with usage (negsuc n) = turned_with usage (negsuc n) (sizes_of (suc n)) twice

turned_rows_of : (difference : Portion) → turned_portions (rows_of difference) ≡ rows_of (turned_portion difference)
turned_rows_of difference = turned_rows_with difference.usage difference.amount

turned_rows : (differences : List Portion) → turned_portions (flat_map rows_of differences) ≡ flat_map rows_of (turned_portions differences)
turned_rows [] = refl
turned_rows (difference ∷ differences) =
    map-append turned_portion (rows_of difference) (flat_map rows_of differences)
    ∙ (λ i. turned_rows_of difference i ++ turned_rows differences i)

turned_each : (a b c d : ℤ) → d ≡ neg_ℤ b → a +ℤ b ≡ c → c +ℤ d ≡ a
turned_each a b c d is each = omega (arith, ints, is, each)

-- the rows of the differences the other way round
pub are_turned : (paid right rows : List Portion) → AreRowsOfDifferences paid right rows → AreRowsOfDifferences right paid (map turned_portion rows)
are_turned paid right rows are = record {
  differences = turned_portions are.differences;
  are = record {
    rising = subst (IsStrictlySortedBy order) (sym (same_uses are.differences)) are.are.rising;
    some = turned_some are.differences are.are.some;
    each = λ usage.
        turned_each (sum_of usage paid) (sum_of usage are.differences) (sum_of usage right) (sum_of usage (turned_portions are.differences))
        (sum_of_turned usage are.differences) (are.are.each usage);
  };
  all = ap turned_portions are.all ∙ turned_rows are.differences;
}
