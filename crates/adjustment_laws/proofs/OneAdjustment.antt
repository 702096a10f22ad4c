-- What two statements differ by is one.
use Rattle.std.proofs.Common.{◌≡◌, ◌∙◌, ◌^◌, ◌≤◌, unsigned_abs, [], ℕ, pos, List, All, ap, refl, sym, subst, arith}
use Rattle.std.specs.Prelude.{flat_map}
use Rattle.std.specs.List.Sorted.{IsStrictlySortedBy}
use Rattle.std.proofs.lemmas.List.Elements.{All-nil, All-weaker}
use Rattle.line_split.specs.ReasonTexts.{reason_text}
use Rattle.line_split.specs.declared.reason.Reason.{Reason}
use Rattle.line_split.proofs.IntSums.{plus_none}
use Rattle.merge_statements.specs.Merged.{portions_of}
use Rattle.merge_statements.specs.Statements.{AreStatements, IsRest, IsStatement, Statement, Statements, text_of_statements, total_of}
use Rattle.merge_statements.proofs.OneMerge.{HasPortion, one_list}
use Rattle.merge_statements.proofs.ReadBack.{one_meaning}
use Rattle.adjust_statements.specs.Adjusted.{AreAdjusted, IsAdjustmentOf, as_rests, reasons, rests_for}
use Rattle.adjust_statements.proofs.DifferenceLemmas.{no_rows}
use Rattle.adjustment_laws.proofs.Rows.{cancelled, one_rows}

have_portions : (all : Statements) → AreStatements all → All HasPortion all.payees
have_portions all are = All-weaker IsStatement HasPortion (λ statement is. is.some) all.payees are.payees

pub one_answer : (paid right answer other : Statements) → AreAdjusted paid right answer → AreAdjusted paid right other → answer ≡ other
one_answer paid right answer other is of =
    let payees = one_list answer.payees other.payees is.sound.rising of.sound.rising (have_portions answer is.sound) (have_portions other of.sound)
    (λ payee. one_rows (portions_of payee paid) (portions_of payee right) (portions_of payee answer) (portions_of payee other) (is.payees payee) (of.payees payee)) in
    let lines = is.lines ∙ sym of.lines in
    let amount = cancelled paid.amount answer.amount right.amount other.amount is.amount of.amount in
    λ i. record { payees = payees i; rests = rests i; lines = lines i; amount = amount i }
  where
    for_reason : (reason : Reason) → rests_for (reason_text reason) answer.rests ≡ rests_for (reason_text reason) other.rests
    for_reason reason =
        one_rows (rests_for (reason_text reason) paid.rests) (rests_for (reason_text reason) right.rests) (rests_for (reason_text reason) answer.rests)
        (rests_for (reason_text reason) other.rests) (is.rests reason) (of.rests reason)

    rests : answer.rests ≡ other.rests
    rests = is.by_reason ∙ (λ i. flat_map (λ reason. as_rests (reason_text reason) (for_reason reason i)) reasons) ∙ sym of.by_reason

pub one_text : (paid right text other : List ℕ) → IsAdjustmentOf paid right text → IsAdjustmentOf paid right other → text ≡ other
one_text paid right text other is of =
    let before = one_meaning is.paid of.paid is.paid_sound of.paid_sound (sym is.paid_says ∙ of.paid_says) in
    let after = one_meaning is.right of.right is.right_sound of.right_sound (sym is.right_says ∙ of.right_says) in
    let same : AreAdjusted of.paid of.right is.answer =
    subst (λ (all : Statements). AreAdjusted of.paid all is.answer) after (subst (λ (all : Statements). AreAdjusted all is.right is.answer) before is.adjusted) in
    is.says ∙ ap text_of_statements (one_answer of.paid of.right is.answer of.answer same of.adjusted) ∙ sym of.says

-- ---- no differences

abbrev nothing : Statements
nothing = record { payees = []; rests = []; lines = 0; amount = pos 0 }

nothing_sound : AreStatements nothing
unfolding IsStrictlySortedBy
nothing_sound = record {
  rising = tt;
  payees = All-nil IsStatement;
  rests = All-nil IsRest;
  adds_up = refl;
  lines = omega arith;
  amount = omega arith;
  totals = All-nil (λ (statement : Statement). unsigned_abs (total_of statement) ≤ 10 ^ 30);
  rest = omega arith;
}

nothing_to_adjust : (all : Statements) → AreAdjusted all all nothing
nothing_to_adjust all = record {
  sound = nothing_sound;
  payees = λ payee. no_rows (portions_of payee all);
  rests = λ reason. no_rows (rests_for (reason_text reason) all.rests);
  by_reason = refl;
  amount = plus_none all.amount;
  same_lines = refl;
  lines = refl;
}

pub no_differences : (all answer : Statements) → AreAdjusted all all answer → answer ≡ nothing
no_differences all answer are = one_answer all all answer nothing are (nothing_to_adjust all)
