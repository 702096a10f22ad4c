-- The differences of a payee, and those for a reason, are written.
use Rattle.std.proofs.Common.{Err, Ok, Result, ◌≡◌, ◌∙◌, ◌≤◌, ◌<◌, ◌^◌, ◌+ℤ◌, ◌++◌, ◌∷◌, [], ℕ, ℤ, pos, Bool, true, false, List, Option, All, length, map, ap, refl, sym, subst, arith, codes, inl, inr, rules, unsigned_abs}
use Rattle.std.specs.Prelude.{IfOk, filter, flat_map, if◌then◌else◌, slice_index_or}
use Rattle.std.specs.Fmt.{signed_decimal}
use Rattle.std.specs.Io.KnownBytes.{Appends}
use Rattle.std.specs.Str.{bytes_eq}
use Rattle.std.proofs.KnownBytes.{Appends-nil, Appends-trans}
use Rattle.std.proofs.lemmas.List.{append-nil}
use Rattle.std.proofs.lemmas.List.Elements.{All-cons, All-head, All-nil, All-tail}
use Rattle.csv_table.specs.Written.{text_of, text_of_row}
use Rattle.line_split.specs.ReasonTexts.{reason_text}
use Rattle.line_split.specs.declared.reason.Reason.{Reason}
use Rattle.line_split.specs.declared.reason.Reason.TheVariants.{Land, Open, Over, Work}
use Rattle.line_split.proofs.IntSums.{plus_none}
use Rattle.merge_statements.specs.SoFar.{total_of_portions}
use Rattle.merge_statements.specs.Statements.{IsName, IsPortion, IsRest, Portion, Rest, portion_row, rest_row, statement_rows, total_row}
use Rattle.merge_statements.specs.declared.refusal.Refusal.{Refusal}
use Rattle.merge_statements.proofs.Chains.{same_amount, same_row}
use Rattle.merge_statements.proofs.Passing.{text_more}
use Rattle.merge_statements.proofs.ReadBack.{the_portion}
use Rattle.adjust_statements.specs.Adjusted.{as_rests, rests_for}
use Rattle.adjust_statements.specs.Differences.{AreRowsOfDifferences, rows_of}
use Rattle.adjust_statements.specs.SoFar.{AdjustsReason, AreRestsRows, AreSums, IsNamed, IsTextOf, WritesDifferences, named_row, statement_of}
use Rattle.adjust_statements.proofs.DifferenceLemmas.{all_rows_sound, all_rows_total, no_rows, rows_from_sums, totals_small}
use Rattle.adjust_statements.proofs.RestLemmas.{own_rows}
use Rattle.adjust_statements.proofs.RowLemmas.{no_end}

-- ---- rows of a payee

named_portions : (payee : List ℕ) (portions : List Portion) → IsName payee → All IsPortion portions → All IsNamed (as_rests payee portions)
named_portions payee [] name sound = All-nil IsNamed
named_portions payee (portion ∷ portions) name sound =
    let here = All-head IsPortion portion portions sound in
    All-cons IsNamed (record { reason = payee; usage = portion.usage; amount = portion.amount }) (as_rests payee portions)
    (name, here.0, here.1) (named_portions payee portions name (All-tail IsPortion portion portions sound))

portion_rows : (payee : List ℕ) (portions : List Portion) → map (portion_row payee) portions ≡ map (named_row (codes "L")) (as_rests payee portions)
portion_rows payee [] = refl
portion_rows payee (portion ∷ portions) = ap (λ (rows : List (List (List ℕ))). portion_row payee portion ∷ rows) (portion_rows payee portions)

pub payee_text : (payee : List ℕ) (portions : List Portion) (text : List ℕ) → IsName payee → All IsPortion portions → text ≡ text_of (map (portion_row payee) portions)
    → IsTextOf (codes "L") (as_rests payee portions) text
payee_text payee portions text name sound is = record { of_portions = inl refl; sound = named_portions payee portions name sound; is = is ∙ ap text_of (portion_rows payee portions) }

pub payee_sums : (payee : List ℕ) (paid right : List Portion) (sums : List Portion) → AreSums (rests_for payee (as_rests payee paid)) (rests_for payee (as_rests payee right)) sums → AreSums paid right sums
payee_sums payee paid right sums are = rw (own_rows payee paid, own_rows payee right) at are

statement_written : (payee : List ℕ) (rows : List Portion) (count : ℕ) (total : ℤ) (first middle after : Option (List ℕ)) → count ≡ length rows → total ≡ total_of_portions rows → 0 < count
    → Appends first middle (text_of (map (named_row (codes "L")) (as_rests payee rows))) → Appends middle after (text_of_row (total_row (codes "S") payee count total))
    → Appends first after (text_of (flat_map statement_rows (statement_of payee rows)))
statement_written payee [] count total first middle after counted sum some written ended = absurd (omega (arith, counted, some))
statement_written payee (row ∷ rows) count total first middle after counted sum some written ended =
    let all = row ∷ rows in
    subst (λ (t : List ℕ). Appends first after t)
    ((λ i. text_of (sym (portion_rows payee all) i) ++ text_of_row (total_row (codes "S") payee (counted i) (sum i)))
    ∙ text_more (map (portion_row payee) all) (total_row (codes "S") payee (length all) (total_of_portions all))
    ∙ ap text_of (sym (append-nil (map (portion_row payee) all ++ total_row (codes "S") payee (length all) (total_of_portions all) ∷ []))))
    (Appends-trans first middle after (text_of (map (named_row (codes "L")) (as_rests payee all))) (text_of_row (total_row (codes "S") payee count total)) written ended)

nothing_written : (payee : List ℕ) (rows : List Portion) (count : ℕ) (first after : Option (List ℕ)) → count ≡ length rows → count ≤ 0
    → Appends first after (text_of (map (named_row (codes "L")) (as_rests payee rows))) → Appends first after (text_of (flat_map statement_rows (statement_of payee rows)))
nothing_written payee [] count first after counted none written = written
nothing_written payee (row ∷ rows) count first after counted none written = absurd (omega (arith, counted, none))

-- the differences were written, without their sum
pub record HasWritten (kind name : List ℕ) (sums : List Portion) (first after : Option (List ℕ)) (count : ℕ) (total : ℤ) : Type 0 where
  pub counted : count ≡ length (flat_map rows_of sums)
  pub sum : total ≡ total_of_portions (flat_map rows_of sums)
  pub written : Appends first after (text_of (map (named_row kind) (as_rests name (flat_map rows_of sums))))

pub differences_written : (payee : List ℕ) (paid right sums : List Portion) (first middle after : Option (List ℕ)) (count : ℕ) (total : ℤ) → AreSums paid right sums
    → HasWritten (codes "L") payee sums first middle count total → 0 < count → Appends middle after (text_of_row (total_row (codes "S") payee count total))
    → WritesDifferences payee paid right first after count total
differences_written payee paid right sums first middle after count total are was some ended = record {
  rows = flat_map rows_of sums;
  are = rows_from_sums paid right sums are;
  sound = all_rows_sound sums are.named;
  few = are.few;
  adds = ap (λ (z : ℤ). total_of_portions paid +ℤ z) (all_rows_total sums) ∙ are.total;
  counted = was.counted;
  sum = was.sum;
  written = statement_written payee (flat_map rows_of sums) count total first middle after was.counted was.sum some was.written ended;
}

pub no_differences_written : (payee : List ℕ) (paid right sums : List Portion) (first after : Option (List ℕ)) (count : ℕ) (total : ℤ) → AreSums paid right sums
    → HasWritten (codes "L") payee sums first after count total → count ≤ 0 → WritesDifferences payee paid right first after count total
no_differences_written payee paid right sums first after count total are was none = record {
  rows = flat_map rows_of sums;
  are = rows_from_sums paid right sums are;
  sound = all_rows_sound sums are.named;
  few = are.few;
  adds = ap (λ (z : ℤ). total_of_portions paid +ℤ z) (all_rows_total sums) ∙ are.total;
  counted = was.counted;
  sum = was.sum;
  written = nothing_written payee (flat_map rows_of sums) count first after was.counted none was.written;
}

-- ---- equal rows

same_portions : (payee : List ℕ) (one other : List Portion) → IsName payee → All IsPortion one → All IsPortion other
    → text_of (map (portion_row payee) one) ≡ text_of (map (portion_row payee) other) → one ≡ other
same_portions payee [] [] name sound sounds same = refl
same_portions payee [] (portion ∷ others) name sound sounds same =
    let here = All-head IsPortion portion others sounds in
    absurd (no_end (codes "L") (record { reason = payee; usage = portion.usage; amount = portion.amount }) (text_of (map (portion_row payee) others)) _ refl (inl refl) (name, here.0, here.1) (sym same))
same_portions payee (portion ∷ portions) [] name sound sounds same =
    let here = All-head IsPortion portion portions sound in
    absurd (no_end (codes "L") (record { reason = payee; usage = portion.usage; amount = portion.amount }) (text_of (map (portion_row payee) portions)) _ refl (inl refl) (name, here.0, here.1) same)
same_portions payee (portion ∷ portions) (other ∷ others) name sound sounds same =
    let both = same_row (portion_row payee portion) (portion_row payee other) (text_of (map (portion_row payee) portions)) (text_of (map (portion_row payee) others)) same in
    let usage : portion.usage ≡ other.usage = ap (λ (l : List (List ℕ)). slice_index_or l 2 []) both.0 in
    let text : signed_decimal portion.amount ≡ signed_decimal other.amount = ap (λ (l : List (List ℕ)). slice_index_or l 3 []) both.0 in
    let amount = same_amount portion.amount other.amount (All-head IsPortion portion portions sound).1 (All-head IsPortion other others sounds).1 text in
    let rest = same_portions payee portions others name (All-tail IsPortion portion portions sound) (All-tail IsPortion other others sounds) both.1 in
    λ i. the_portion (usage i) (amount i) ∷ rest i

pub equal_rows : (payee : List ℕ) (paid right : List Portion) (text other : List ℕ) (first : Option (List ℕ)) → IsName payee → All IsPortion paid → All IsPortion right
    → text ≡ text_of (map (portion_row payee) paid) → other ≡ text_of (map (portion_row payee) right) → text ≡ other → WritesDifferences payee paid right first first 0 (pos 0)
equal_rows payee paid right text other first name paid_sound right_sound paid_is right_is same =
    let one = same_portions payee paid right name paid_sound right_sound (sym paid_is ∙ same ∙ right_is) in
    record {
      rows = [];
      are = subst (λ (l : List Portion). AreRowsOfDifferences paid l []) one (no_rows paid);
      sound = All-nil IsPortion;
      few = omega arith;
      adds = plus_none (total_of_portions paid) ∙ ap total_of_portions one;
      counted = refl;
      sum = refl;
      written = Appends-nil first;
    }

-- ---- what nobody gets

reason_name : (reason : Reason) → IsName (reason_text reason)
reason_name Work = record { some = omega arith; short = omega arith; printable = search rules }
reason_name Land = record { some = omega arith; short = omega arith; printable = search rules }
reason_name Over = record { some = omega arith; short = omega arith; printable = search rules }
reason_name Open = record { some = omega arith; short = omega arith; printable = search rules }

named_rests : (rests : List Rest) → All IsRest rests → All IsNamed rests
named_rests [] sound = All-nil IsNamed
named_rests (rest ∷ rests) sound =
    let here = All-head IsRest rest rests sound in
    All-cons IsNamed rest rests (subst IsName (sym here.0.1) (reason_name here.0.0), here.1, here.2) (named_rests rests (All-tail IsRest rest rests sound))

pub rests_text : (rests : List Rest) (text : List ℕ) → All IsRest rests → text ≡ text_of (map rest_row rests) → IsTextOf (codes "M") rests text
rests_text rests text sound is = record { of_portions = inr refl; sound = named_rests rests sound; is = is }

for_short : (reason : List ℕ) (rests : List Rest) → length (rests_for reason rests) ≤ length rests
for_short reason [] = omega arith
for_short reason (rest ∷ rests) = by (bytes_eq rest.reason reason) (for_short reason rests)
  where
    by : (told : Bool) → length (rests_for reason rests) ≤ length rests
        → length (map (λ (r : Rest). the_portion r.usage r.amount) (if told then rest ∷ filter (λ r. bytes_eq r.reason reason) rests else filter (λ r. bytes_eq r.reason reason) rests)) ≤ length (rest ∷ rests)
    by true later = omega (arith, later)
    by false later = omega (arith, later)

pub reason_few : (reason : List ℕ) (paid right : List Rest) (sums : List Portion) (text other : List ℕ) → AreRestsRows paid right text other → AreSums (rests_for reason paid) (rests_for reason right) sums
    → length (flat_map rows_of sums) ≤ 10 ^ 18
reason_few reason paid right sums text other rows are = omega (arith, are.few, for_short reason paid, for_short reason right, rows.few)

pub reason_written : (reason : List ℕ) (paid right : List Rest) (sums : List Portion) (first after : Option (List ℕ)) (count : ℕ) (total : ℤ) → AreSums (rests_for reason paid) (rests_for reason right) sums
    → HasWritten (codes "M") reason sums first after count total → AdjustsReason reason paid right first after count total
reason_written reason paid right sums first after count total are was = record {
  rows = flat_map rows_of sums;
  are = rows_from_sums (rests_for reason paid) (rests_for reason right) sums are;
  sound = all_rows_sound sums are.named;
  few = are.few;
  adds = ap (λ (z : ℤ). total_of_portions (rests_for reason paid) +ℤ z) (all_rows_total sums) ∙ are.total;
  counted = was.counted;
  sum = was.sum;
  written = was.written;
}

-- what rows come to is not too large
pub total_within : (sums : List Portion) (total : ℤ) → total ≡ total_of_portions (flat_map rows_of sums) → length (flat_map rows_of sums) ≤ 10 ^ 18 → unsigned_abs total ≤ 10 ^ 30
total_within sums total is few =
    let small = totals_small sums in
    omega (arith, small, few, ap unsigned_abs is, ap unsigned_abs (all_rows_total sums))

pub ok_written : (result : Result (ℕ × ℤ) Refusal) (kind name : List ℕ) (sums : List Portion) (first after : Option (List ℕ)) → IfOk result (λ sum. sum.0 ≡ length (flat_map rows_of sums))
    → IfOk result (λ sum. sum.1 ≡ total_of_portions (flat_map rows_of sums)) → IfOk result (λ _. Appends first after (text_of (map (named_row kind) (as_rests name (flat_map rows_of sums)))))
    → IfOk result (λ sum. HasWritten kind name sums first after sum.0 sum.1)
ok_written (Ok sum) kind name sums first after count total written = record { counted = count; sum = total; written = written }
ok_written (Err refusal) kind name sums first after count total written = tt
