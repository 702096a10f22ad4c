-- What nobody gets, reason by reason.
use Rattle.std.proofs.Common.{◌≡◌, ◌∙◌, ◌+ℤ◌, ◌++◌, ◌∷◌, [], ℕ, ℤ, List, All, map, ap, refl, sym, arith}
use Rattle.std.specs.Prelude.{filter}
use Rattle.std.specs.Str.{bytes_eq}
use Rattle.std.proofs.lemmas.Int.{ints}
use Rattle.std.proofs.lemmas.List.{map-append}
use Rattle.std.proofs.lemmas.List.Elements.{All-head, All-tail, filter-append}
use Rattle.line_split.specs.ReasonTexts.{reason_text}
use Rattle.line_split.specs.declared.reason.Reason.{Reason}
use Rattle.line_split.specs.declared.reason.Reason.TheVariants.{Land, Open, Over, Work}
use Rattle.line_split.proofs.IntSums.{int_sum_by-cons}
use Rattle.merge_statements.specs.SoFar.{total_of_portions}
use Rattle.merge_statements.specs.Statements.{IsRest, Portion, Rest, Statements, total_of_rests}
use Rattle.adjust_statements.specs.Adjusted.{AreAdjusted, rests_for}
use Rattle.adjustment_laws.proofs.Rows.{rows_come_to}
use Rattle.adjustment_laws.proofs.Uses.{first_total}

abbrev as_portion : Rest → Portion
as_portion rest = record { usage = rest.usage; amount = rest.amount }

pub for-append : (reason : List ℕ) (rests more : List Rest) → rests_for reason (rests ++ more) ≡ rests_for reason rests ++ rests_for reason more
for-append reason rests more =
    ap (map as_portion) (filter-append (λ (r : Rest). bytes_eq r.reason reason) rests more)
    ∙ map-append as_portion (filter (λ r. bytes_eq r.reason reason) rests) (filter (λ r. bytes_eq r.reason reason) more)

abbrev total_for : Reason → List Rest → ℤ
total_for reason rests = total_of_portions (rests_for (reason_text reason) rests)

abbrev total_of_all : List Rest → ℤ
total_of_all rests = total_for Work rests +ℤ (total_for Land rests +ℤ (total_for Over rests +ℤ total_for Open rests))

-- what is left for all reasons is all that is left
all_reasons : (rests : List Rest) → All IsRest rests → total_of_all rests ≡ total_of_rests rests
all_reasons [] sound = refl
all_reasons (rest ∷ rests) sound =
    by (All-head IsRest rest rests sound).0.0 (All-head IsRest rest rests sound).0.1 (all_reasons rests (All-tail IsRest rest rests sound))
    ∙ sym (int_sum_by-cons (λ (r : Rest). r.amount) rest rests)
  where
    by : (reason : Reason) → rest.reason ≡ reason_text reason → total_of_all rests ≡ total_of_rests rests → total_of_all (rest ∷ rests) ≡ rest.amount +ℤ total_of_rests rests
    by Work is later = rw is (omega (arith, ints, later, first_total (as_portion rest) (rests_for (reason_text Work) rests)))
    by Land is later = rw is (omega (arith, ints, later, first_total (as_portion rest) (rests_for (reason_text Land) rests)))
    by Over is later = rw is (omega (arith, ints, later, first_total (as_portion rest) (rests_for (reason_text Over) rests)))
    by Open is later = rw is (omega (arith, ints, later, first_total (as_portion rest) (rests_for (reason_text Open) rests)))

four_sums : (a b c d e f g h i j k l : ℤ) → a +ℤ b ≡ c → d +ℤ e ≡ f → g +ℤ h ≡ i → j +ℤ k ≡ l
    → (a +ℤ (d +ℤ (g +ℤ j))) +ℤ (b +ℤ (e +ℤ (h +ℤ k))) ≡ c +ℤ (f +ℤ (i +ℤ l))
four_sums a b c d e f g h i j k l one two three four = omega (arith, ints, one, two, three, four)

-- what nobody gets in all comes to what is right
pub rests_come_to : (paid right answer : Statements) → All IsRest paid.rests → All IsRest right.rests → AreAdjusted paid right answer
    → total_of_rests paid.rests +ℤ total_of_rests answer.rests ≡ total_of_rests right.rests
rests_come_to paid right answer paid_sound right_sound are =
    (λ i. sym (all_reasons paid.rests paid_sound) i +ℤ sym (all_reasons answer.rests are.sound.rests) i)
    ∙ four_sums
    (total_for Work paid.rests) (total_for Work answer.rests) (total_for Work right.rests)
    (total_for Land paid.rests) (total_for Land answer.rests) (total_for Land right.rests)
    (total_for Over paid.rests) (total_for Over answer.rests) (total_for Over right.rests)
    (total_for Open paid.rests) (total_for Open answer.rests) (total_for Open right.rests)
    (for_reason Work) (for_reason Land) (for_reason Over) (for_reason Open)
    ∙ all_reasons right.rests right_sound
  where
    for_reason : (reason : Reason) → total_for reason paid.rests +ℤ total_for reason answer.rests ≡ total_for reason right.rests
    for_reason reason =
        rows_come_to (rests_for (reason_text reason) paid.rests) (rests_for (reason_text reason) right.rests) (rests_for (reason_text reason) answer.rests)
        (are.rests reason)
