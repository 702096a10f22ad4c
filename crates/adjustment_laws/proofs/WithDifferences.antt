-- What was paid, merged with the differences.
use Rattle.std.proofs.Common.{◌≡◌, ◌∙◌, ◌^◌, ◌≤◌, ◌+ℤ◌, ◌++◌, ◌∷◌, [], ℕ, ℤ, unsigned_abs, Bool, true, false, List, All, ap, refl, sym, subst, arith}
use Rattle.std.specs.Prelude.{flat_map, sum_by}
use Rattle.std.specs.List.Sorted.{IsStrictlySortedBy}
use Rattle.std.specs.Str.{bytes_eq}
use Rattle.std.proofs.lemmas.List.{append-nil}
use Rattle.std.proofs.lemmas.List.Elements.{All-cons, All-head, All-nil, All-tail}
use Rattle.std.proofs.lemmas.Slice.Eq.{bytes_eq-Decides}
use Rattle.line_split.specs.ReasonTexts.{reason_text}
use Rattle.line_split.specs.Signs.{int_sum_by}
use Rattle.line_split.specs.declared.reason.Reason.{Reason}
use Rattle.line_split.proofs.IntSums.{int_sum_by-append, none_plus}
use Rattle.merge_statements.specs.Merged.{AreMerged, portions_of}
use Rattle.merge_statements.specs.SoFar.{order, payees_of, portions_in, total_of_portions}
use Rattle.merge_statements.specs.Statements.{AreStatements, Portion, Rest, Statement, Statements, total_of, total_of_rests}
use Rattle.merge_statements.proofs.Joining.{have_merge}
use Rattle.merge_statements.proofs.OneMerge.{first_has}
use Rattle.adjust_statements.specs.Adjusted.{AreAdjusted, rests_for}
use Rattle.adjust_statements.specs.Differences.{sum_of}
use Rattle.adjustment_laws.proofs.Rests.{for-append, rests_come_to}
use Rattle.adjustment_laws.proofs.Rows.{with_rows_sum, with_rows_total}

-- ---- what a merge says

module _ (paid right answer : Statements) where
  portions_together : (payee : List ℕ) → flat_map (portions_of payee) (paid ∷ answer ∷ []) ≡ portions_of payee paid ++ portions_of payee answer
  portions_together payee = ap (λ (l : List Portion). portions_of payee paid ++ l) (append-nil (portions_of payee answer))

  rests_together : flat_map (λ (part : Statements). part.rests) (paid ∷ answer ∷ []) ≡ paid.rests ++ answer.rests
  rests_together = ap (λ (l : List Rest). paid.rests ++ l) (append-nil answer.rests)

  total_together : (payee : List ℕ) → AreAdjusted paid right answer → total_of_portions (flat_map (portions_of payee) (paid ∷ answer ∷ [])) ≡ total_of_portions (portions_of payee right)
  total_together payee are =
      ap total_of_portions (portions_together payee)
      ∙ with_rows_total (portions_of payee paid) (portions_of payee right) (portions_of payee answer) (are.payees payee)

  lines_together : AreAdjusted paid right answer → sum_by (λ (part : Statements). part.lines) (paid ∷ answer ∷ []) ≡ right.lines
  lines_together are = omega (arith, are.lines, are.same_lines)

  amount_together : AreAdjusted paid right answer → int_sum_by (λ (part : Statements). part.amount) (paid ∷ answer ∷ []) ≡ right.amount
  amount_together are = ap (λ (z : ℤ). z +ℤ answer.amount) (none_plus paid.amount) ∙ are.amount

  module _ (whole : Statements) where
    pub merged_sum : (payee usage : List ℕ) → AreAdjusted paid right answer → AreMerged (paid ∷ answer ∷ []) whole
        → sum_of usage (portions_of payee whole) ≡ sum_of usage (portions_of payee right)
    merged_sum payee usage are is =
        ap (sum_of usage) (is.portions payee ∙ portions_together payee)
        ∙ with_rows_sum (portions_of payee paid) (portions_of payee right) (portions_of payee answer) usage (are.payees payee)

    pub merged_total : (payee : List ℕ) → AreAdjusted paid right answer → AreMerged (paid ∷ answer ∷ []) whole
        → total_of_portions (portions_of payee whole) ≡ total_of_portions (portions_of payee right)
    merged_total payee are is = ap total_of_portions (is.portions payee) ∙ total_together payee are

    pub merged_rest : (reason : Reason) (usage : List ℕ) → AreAdjusted paid right answer → AreMerged (paid ∷ answer ∷ []) whole
        → sum_of usage (rests_for (reason_text reason) whole.rests) ≡ sum_of usage (rests_for (reason_text reason) right.rests)
    merged_rest reason usage are is =
        let text = reason_text reason in
        ap (sum_of usage) (ap (rests_for text) (is.rests ∙ rests_together) ∙ for-append text paid.rests answer.rests)
        ∙ with_rows_sum (rests_for text paid.rests) (rests_for text right.rests) (rests_for text answer.rests) usage (are.rests reason)

-- ---- there is one

abbrev IsSmall : Statement → Type 0
IsSmall statement = unsigned_abs (total_of statement) ≤ 10 ^ 30

-- what a payee has is not too large, where no statement is
payee_small : (payee : List ℕ) (payees : List Statement) → IsStrictlySortedBy order (payees_of payees) → All IsSmall payees → unsigned_abs (total_of_portions (portions_in payee payees)) ≤ 10 ^ 30
unfolding IsStrictlySortedBy
payee_small payee [] rising small = omega arith
payee_small payee (statement ∷ payees) rising small =
    on (bytes_eq statement.payee payee) refl (All-head IsSmall statement payees small) (payee_small payee payees rising.1 (All-tail IsSmall statement payees small))
  where
    on : (told : Bool) → bytes_eq statement.payee payee ≡ told → IsSmall statement → unsigned_abs (total_of_portions (portions_in payee payees)) ≤ 10 ^ 30
        → unsigned_abs (total_of_portions (portions_in payee (statement ∷ payees))) ≤ 10 ^ 30
    on true is here later =
        let own : statement.payee ≡ payee = (bytes_eq-Decides statement.payee payee).0 is in
        subst (λ (l : List Portion). unsigned_abs (total_of_portions l) ≤ 10 ^ 30)
        (sym (first_has statement payees rising.0) ∙ ap (λ (p : List ℕ). portions_in p (statement ∷ payees)) own) here
    on false is here later = rw is later

pub merge_of_differences : (paid right answer : Statements) → AreStatements paid → AreStatements right → AreAdjusted paid right answer
    → (whole : Statements) × AreMerged (paid ∷ answer ∷ []) whole
merge_of_differences paid right answer paid_sound right_sound are =
    have_merge (paid ∷ answer ∷ [])
    (All-cons AreStatements paid (answer ∷ []) paid_sound (All-cons AreStatements answer [] are.sound (All-nil AreStatements)))
    record {
      lines = omega (arith, lines_together paid right answer are, right_sound.lines);
      amount = subst (λ (z : ℤ). unsigned_abs z ≤ 10 ^ 30) (sym (amount_together paid right answer are)) right_sound.amount;
      totals = λ payee.
          subst (λ (z : ℤ). unsigned_abs z ≤ 10 ^ 30) (sym (total_together paid right answer payee are))
          (payee_small payee right.payees right_sound.rising right_sound.totals);
      rest = subst (λ (z : ℤ). unsigned_abs z ≤ 10 ^ 30) (sym rests) right_sound.rest;
    }
  where
    rests : total_of_rests (flat_map (λ (part : Statements). part.rests) (paid ∷ answer ∷ [])) ≡ total_of_rests right.rests
    rests = ap total_of_rests (rests_together paid right answer)
        ∙ int_sum_by-append (λ (r : Rest). r.amount) paid.rests answer.rests
        ∙ rests_come_to paid right answer paid_sound.rests right_sound.rests are
