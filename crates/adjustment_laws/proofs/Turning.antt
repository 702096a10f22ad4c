-- Statements with every sign turned.
use Rattle.std.proofs.Common.{◌≡◌, ◌∙◌, ◌^◌, ◌≤◌, ◌+ℤ◌, ◌++◌, ◌∷◌, [], ℕ, ℤ, unsigned_abs, Bool, true, false, List, map, ap, refl, sym, subst, arith}
use Rattle.std.specs.Prelude.{filter, flat_map, if◌then◌else◌, neg_ℤ}
use Rattle.std.specs.List.Sorted.{IsStrictlySortedBy}
use Rattle.std.specs.Str.{bytes_eq}
use Rattle.std.proofs.lemmas.Int.{ints}
use Rattle.std.proofs.lemmas.List.{length-map, map-append}
use Rattle.std.proofs.lemmas.List.Elements.{All-map, All-weaker}
use Rattle.line_split.specs.ReasonTexts.{reason_text}
use Rattle.line_split.specs.Signs.{int_sum_by}
use Rattle.line_split.specs.declared.reason.Reason.{Reason}
use Rattle.merge_statements.specs.Merged.{portions_of}
use Rattle.merge_statements.specs.SoFar.{order, payees_of, portions_in}
use Rattle.merge_statements.specs.Statements.{AreStatements, IsAmount, IsPortion, IsRest, IsStatement, Portion, Rest, Statement, Statements, total_of, total_of_rests}
use Rattle.adjust_statements.specs.Adjusted.{AreAdjusted, as_rests, reasons, rests_for}
use Rattle.adjust_statements.specs.Differences.{AreRowsOfDifferences}
use Rattle.adjustment_laws.specs.Turned.{turned, turned_portion, turned_rest, turned_statement}
use Rattle.adjustment_laws.proofs.Rows.{are_turned}
use Rattle.adjustment_laws.proofs.Uses.{sum_turned, total_turned, turned_size, turned_sum}

-- ---- numbers

turned_back : (a b c : ℤ) → a +ℤ b ≡ c → c +ℤ neg_ℤ b ≡ a
turned_back a b c is = omega (arith, ints, is)

turned_amount : (amount : ℤ) → IsAmount amount → IsAmount (neg_ℤ amount)
turned_amount amount is = let size = turned_size amount in (omega (arith, size, is.0), omega (arith, size, is.1))

turned_within : (amount turned_amount : ℤ) → turned_amount ≡ neg_ℤ amount → unsigned_abs amount ≤ 10 ^ 30 → unsigned_abs turned_amount ≤ 10 ^ 30
turned_within amount turned_amount is small = omega (arith, ap unsigned_abs is, turned_size amount, small)

-- ---- statements

turned_total : (statement : Statement) → total_of (turned_statement statement) ≡ neg_ℤ (total_of statement)
turned_total statement = total_turned statement.portions

same_payees : (payees : List Statement) → payees_of (map turned_statement payees) ≡ payees_of payees
same_payees [] = refl
same_payees (statement ∷ payees) = ap (λ (l : List (List ℕ)). statement.payee ∷ l) (same_payees payees)

portion_sound : (portion : Portion) → IsPortion portion → IsPortion (turned_portion portion)
portion_sound portion is = (is.0, turned_amount portion.amount is.1)

statement_sound : (statement : Statement) → IsStatement statement → IsStatement (turned_statement statement)
statement_sound statement is = record {
  payee = is.payee;
  some = omega (arith, is.some, length-map statement.portions turned_portion);
  portions = All-map IsPortion turned_portion statement.portions (All-weaker IsPortion (λ portion. IsPortion (turned_portion portion)) portion_sound statement.portions is.portions);
}

rest_sound : (rest : Rest) → IsRest rest → IsRest (turned_rest rest)
rest_sound rest is = (is.0, is.1, turned_amount rest.amount is.2)

abbrev IsSmall : Statement → Type 0
IsSmall statement = unsigned_abs (total_of statement) ≤ 10 ^ 30

all_sound : (all : Statements) → AreStatements all → AreStatements (turned all)
all_sound all are = record {
  rising = subst (IsStrictlySortedBy order) (sym (same_payees all.payees)) are.rising;
  payees = All-map IsStatement turned_statement all.payees (All-weaker IsStatement (λ statement. IsStatement (turned_statement statement)) statement_sound all.payees are.payees);
  rests = All-map IsRest turned_rest all.rests (All-weaker IsRest (λ rest. IsRest (turned_rest rest)) rest_sound all.rests are.rests);
  adds_up = (λ i. payees i +ℤ rests i) ∙ turned_sum (int_sum_by total_of all.payees) (total_of_rests all.rests) ∙ ap neg_ℤ are.adds_up;
  lines = are.lines;
  amount = turned_within all.amount (neg_ℤ all.amount) refl are.amount;
  totals = All-map IsSmall turned_statement all.payees
      (All-weaker IsSmall (λ statement. IsSmall (turned_statement statement))
      (λ statement small. turned_within (total_of statement) (total_of (turned_statement statement)) (turned_total statement) small) all.payees are.totals);
  rest = turned_within (total_of_rests all.rests) (total_of_rests (map turned_rest all.rests)) rests are.rest;
}
  where
    payees : int_sum_by total_of (map turned_statement all.payees) ≡ neg_ℤ (int_sum_by total_of all.payees)
    payees = sum_turned total_of turned_statement turned_total all.payees

    rests : total_of_rests (map turned_rest all.rests) ≡ neg_ℤ (total_of_rests all.rests)
    rests = sum_turned (λ (r : Rest). r.amount) turned_rest (λ r. refl) all.rests

-- ---- what a payee has, and what is left for a reason

portions_turned : (payee : List ℕ) (payees : List Statement) → portions_in payee (map turned_statement payees) ≡ map turned_portion (portions_in payee payees)
portions_turned payee [] = refl
portions_turned payee (statement ∷ payees) = on (bytes_eq statement.payee payee) (portions_turned payee payees)
  where
    on : (told : Bool) → portions_in payee (map turned_statement payees) ≡ map turned_portion (portions_in payee payees)
        → flat_map (λ (s : Statement). s.portions) (if told then turned_statement statement ∷ filter (λ s. bytes_eq s.payee payee) (map turned_statement payees) else filter (λ s. bytes_eq s.payee payee) (map turned_statement payees))
        ≡ map turned_portion (flat_map (λ (s : Statement). s.portions) (if told then statement ∷ filter (λ s. bytes_eq s.payee payee) payees else filter (λ s. bytes_eq s.payee payee) payees))
    on true later =
        ap (λ (l : List Portion). map turned_portion statement.portions ++ l) later
        ∙ sym (map-append turned_portion statement.portions (portions_in payee payees))
    on false later = later

abbrev as_portion : Rest → Portion
as_portion rest = record { usage = rest.usage; amount = rest.amount }

rests_turned : (reason : List ℕ) (rests : List Rest) → rests_for reason (map turned_rest rests) ≡ map turned_portion (rests_for reason rests)
rests_turned reason [] = refl
rests_turned reason (rest ∷ rests) = on (bytes_eq rest.reason reason) (rests_turned reason rests)
  where
    on : (told : Bool) → rests_for reason (map turned_rest rests) ≡ map turned_portion (rests_for reason rests)
        → map as_portion (if told then turned_rest rest ∷ filter (λ r. bytes_eq r.reason reason) (map turned_rest rests) else filter (λ r. bytes_eq r.reason reason) (map turned_rest rests))
        ≡ map turned_portion (map as_portion (if told then rest ∷ filter (λ r. bytes_eq r.reason reason) rests else filter (λ r. bytes_eq r.reason reason) rests))
    on true later = ap (λ (l : List Portion). turned_portion (as_portion rest) ∷ l) later
    on false later = later

turned_as_rests : (reason : List ℕ) (rows : List Portion) → map turned_rest (as_rests reason rows) ≡ as_rests reason (map turned_portion rows)
turned_as_rests reason [] = refl
turned_as_rests reason (row ∷ rows) = ap (λ (l : List Rest). record { reason = reason; usage = row.usage; amount = neg_ℤ row.amount } ∷ l) (turned_as_rests reason rows)

-- and reason by reason
turned_by : (of others : Reason → List Rest) → ((reason : Reason) → map turned_rest (of reason) ≡ others reason) → (several : List Reason)
    → map turned_rest (flat_map of several) ≡ flat_map others several
turned_by of others turns [] = refl
turned_by of others turns (reason ∷ several) =
    map-append turned_rest (of reason) (flat_map of several) ∙ (λ i. turns reason i ++ turned_by of others turns several i)

-- ---- the differences the other way round

pub turned_round : (paid right answer : Statements) → AreAdjusted paid right answer → AreAdjusted right paid (turned answer)
turned_round paid right answer are = record {
  sound = all_sound answer are.sound;
  payees = λ payee.
      subst (AreRowsOfDifferences (portions_of payee right) (portions_of payee paid)) (sym (portions_turned payee answer.payees))
      (are_turned (portions_of payee paid) (portions_of payee right) (portions_of payee answer) (are.payees payee));
  rests = λ reason.
      subst (AreRowsOfDifferences (rests_for (reason_text reason) right.rests) (rests_for (reason_text reason) paid.rests)) (sym (rests_turned (reason_text reason) answer.rests))
      (are_turned (rests_for (reason_text reason) paid.rests) (rests_for (reason_text reason) right.rests) (rests_for (reason_text reason) answer.rests) (are.rests reason));
  by_reason = ap (map turned_rest) are.by_reason ∙ turned_by
      (λ reason. as_rests (reason_text reason) (rests_for (reason_text reason) answer.rests))
      (λ reason. as_rests (reason_text reason) (rests_for (reason_text reason) (map turned_rest answer.rests)))
      (λ reason. turned_as_rests (reason_text reason) (rests_for (reason_text reason) answer.rests)
      ∙ ap (as_rests (reason_text reason)) (sym (rests_turned (reason_text reason) answer.rests))) reasons;
  amount = turned_back paid.amount answer.amount right.amount are.amount;
  same_lines = sym are.same_lines;
  lines = are.lines;
}
