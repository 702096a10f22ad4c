-- The rows of statements can stand one after another, from the first to the last.
use Rattle.std.proofs.Common.{◌≡◌, ◌∙◌, inl, inr, ◌<◌, ◌≤◌, ◌+◌, ◌^◌, ◌+ℤ◌, ◌++◌, ◌∷◌, [], ℕ, ℤ, pos, List, All, length, get_or, map, ap, sym, refl, subst, arith, codes, decimal}
use Rattle.std.specs.Prelude.{flat_map}
use Rattle.std.specs.Fmt.{signed_decimal}
use Rattle.std.specs.List.{AllByRecursion}
use Rattle.std.specs.List.Sorted.{IsStrictlySortedBy}
use Rattle.std.specs.declared.cmp.Ordering.TheVariants.{Less}
use Rattle.std.proofs.lemmas.Int.{ints}
use Rattle.std.proofs.lemmas.List.Elements.{All-head, All-tail}
use Rattle.std.proofs.lemmas.List.Sums.{sum_by-cons}
use Rattle.line_split.specs.Signs.{int_sum_by}
use Rattle.line_split.proofs.IntSums.{int_sum_by-cons, none_plus, plus_none}
use Rattle.merge_statements.specs.SoFar.{order, payees_of, total_of_portions}
use Rattle.merge_statements.specs.Places.{At, Fits, Follows, IsPayeeAt, KindFits, Leads, at_first, count_at, sum_at}
use Rattle.merge_statements.specs.Statements.{AreStatements, IsAmount, IsCount, IsName, IsPortion, IsReason, IsRest, IsStatement, Portion, Rest, Statement, Statements, count_of_portions, portion_row, rest_row, rests_rows, rows_of_statements, statement_rows, text_of_statements, total_of, total_of_rests, total_row}
use Rattle.merge_statements.specs.Refused.{AreRows, IsStatementText}
use Rattle.merge_statements.specs.Refused.AreRows.{none as no_rows, more as more_rows}
use Rattle.merge_statements.specs.declared.walk.Place.{Place}
use Rattle.merge_statements.specs.declared.walk.Place.TheVariants.{Between, Ended, Resting, Summed, Within}
use Rattle.merge_statements.proofs.WalkLemmas.{amount_fits, portion_leads, rest_leads, rests_fit, run_leads, sum_fits, usage_fits}
use Rattle.merge_statements.proofs.Whole.{count_of}

-- a place with all that is known there
abbrev there : Place → List ℕ → ℕ → ℤ → At
there place payee portions total = record { place = place; payee = payee; portions = portions; total = total }

-- kinds of rows differ by their letters
letters : (one other : List ℕ) → one ≡ other → get_or one 0 0 ≡ get_or other 0 0
letters one other same = ap (λ (k : List ℕ). get_or k 0 0) same

-- ---- a row of each kind

portion_fits : (at : At) (payee_or_reason usage_or_count amount_or_total : List ℕ) (amount : ℤ) → KindFits at.place (codes "L") → IsPayeeAt at.place at.payee payee_or_reason → IsName usage_or_count → IsCount (at.portions + 1) → IsAmount amount
    → amount_or_total ≡ signed_decimal amount → Fits at (codes "L") payee_or_reason usage_or_count amount_or_total
portion_fits at payee_or_reason usage_or_count amount_or_total amount fits due name few size written = record {
  kind_fits = fits;
  payee_or_reason_fits = record {
    payee = λ l. due;
    same = λ s. absurd (omega (arith, letters (codes "L") (codes "S") s));
    reason = λ m. absurd (omega (arith, letters (codes "L") (codes "M") m));
    none = λ any. absurd (elim any [ inl t ↦ omega (arith, letters (codes "L") (codes "T") t) | inr r ↦ omega (arith, letters (codes "L") (codes "R") r) ]);
  };
  usage_or_count_fits = usage_fits at (codes "L") usage_or_count (inl refl) name;
  amount_or_total_fits = amount_fits at (codes "L") amount_or_total (inl refl) (few, (amount, size, written));
}

rest_fits : (at : At) (payee_or_reason usage_or_count amount_or_total : List ℕ) (amount : ℤ) → KindFits at.place (codes "M") → IsReason payee_or_reason → IsName usage_or_count → IsCount (at.portions + 1) → IsAmount amount
    → amount_or_total ≡ signed_decimal amount → Fits at (codes "M") payee_or_reason usage_or_count amount_or_total
rest_fits at payee_or_reason usage_or_count amount_or_total amount fits reason name few size written = record {
  kind_fits = fits;
  payee_or_reason_fits = record {
    payee = λ l. absurd (omega (arith, letters (codes "M") (codes "L") l));
    same = λ s. absurd (omega (arith, letters (codes "M") (codes "S") s));
    reason = λ m. reason;
    none = λ any. absurd (elim any [ inl t ↦ omega (arith, letters (codes "M") (codes "T") t) | inr r ↦ omega (arith, letters (codes "M") (codes "R") r) ]);
  };
  usage_or_count_fits = usage_fits at (codes "M") usage_or_count (inr refl) name;
  amount_or_total_fits = amount_fits at (codes "M") amount_or_total (inr refl) (few, (amount, size, written));
}

run_fits : (at : At) (lines : ℕ) → at.place ≡ Summed → IsCount lines → Fits at (codes "R") [] (decimal lines) (signed_decimal at.total)
run_fits at lines summed few = record {
  kind_fits = subst (λ (place : Place). KindFits place (codes "R")) (sym summed) refl;
  payee_or_reason_fits = record {
    payee = λ l. absurd (omega (arith, letters (codes "R") (codes "L") l));
    same = λ s. absurd (omega (arith, letters (codes "R") (codes "S") s));
    reason = λ m. absurd (omega (arith, letters (codes "R") (codes "M") m));
    none = λ any. refl;
  };
  usage_or_count_fits = record {
    usage = λ any. absurd (elim any [ inl l ↦ omega (arith, letters (codes "R") (codes "L") l) | inr m ↦ omega (arith, letters (codes "R") (codes "M") m) ]);
    count = λ any. absurd (elim any [ inl s ↦ omega (arith, letters (codes "R") (codes "S") s) | inr t ↦ omega (arith, letters (codes "R") (codes "T") t) ]);
    lines = λ r. (lines, few, refl);
  };
  amount_or_total_fits = record {
    amount = λ any. absurd (elim any [ inl l ↦ omega (arith, letters (codes "R") (codes "L") l) | inr m ↦ omega (arith, letters (codes "R") (codes "M") m) ]);
    sum = λ any. absurd (elim any [ inl s ↦ omega (arith, letters (codes "R") (codes "S") s) | inr t ↦ omega (arith, letters (codes "R") (codes "T") t) ]);
    all = λ r. refl;
  };
}

sum_leads : (at : At) (usage_or_count amount_or_total : List ℕ) → Leads at (codes "S") at.payee usage_or_count amount_or_total (there Between at.payee at.portions (at.total +ℤ sum_at at.place))
sum_leads at usage_or_count amount_or_total = record {
  portion = λ l. absurd (omega (arith, letters (codes "S") (codes "L") l));
  sum = λ s. refl;
  rest = λ m. absurd (omega (arith, letters (codes "S") (codes "M") m));
  rests = λ t. absurd (omega (arith, letters (codes "S") (codes "T") t));
  run = λ r. absurd (omega (arith, letters (codes "S") (codes "R") r));
}

rests_lead : (at : At) (usage_or_count amount_or_total : List ℕ) → Leads at (codes "T") [] usage_or_count amount_or_total (there Summed at.payee at.portions (at.total +ℤ sum_at at.place))
rests_lead at usage_or_count amount_or_total = record {
  portion = λ l. absurd (omega (arith, letters (codes "T") (codes "L") l));
  sum = λ s. absurd (omega (arith, letters (codes "T") (codes "S") s));
  rest = λ m. absurd (omega (arith, letters (codes "T") (codes "M") m));
  rests = λ t. refl;
  run = λ r. absurd (omega (arith, letters (codes "T") (codes "R") r));
}

portion_follows : (at : At) (payee : List ℕ) (portion : Portion) → KindFits at.place (codes "L") → IsPayeeAt at.place at.payee payee → IsPortion portion → IsCount (at.portions + 1)
    → Follows at (portion_row payee portion) (there (Within (count_at at.place + 1) (sum_at at.place +ℤ portion.amount)) payee (at.portions + 1) at.total)
portion_follows at payee portion fits due sound few = record {
  kind = codes "L";
  payee_or_reason = payee;
  usage_or_count = portion.usage;
  amount_or_total = signed_decimal portion.amount;
  form = refl;
  fits = portion_fits at payee portion.usage (signed_decimal portion.amount) portion.amount fits due sound.0 few sound.1 refl;
  leads = portion_leads at _ (codes "L") payee portion.usage (signed_decimal portion.amount) portion.amount refl sound.1 refl refl;
}

rest_follows : (at : At) (rest : Rest) → KindFits at.place (codes "M") → IsRest rest → IsCount (at.portions + 1)
    → Follows at (rest_row rest) (there (Resting (count_at at.place + 1) (sum_at at.place +ℤ rest.amount)) at.payee (at.portions + 1) at.total)
rest_follows at rest fits sound few = record {
  kind = codes "M";
  payee_or_reason = rest.reason;
  usage_or_count = rest.usage;
  amount_or_total = signed_decimal rest.amount;
  form = refl;
  fits = rest_fits at rest.reason rest.usage (signed_decimal rest.amount) rest.amount fits sound.0 sound.1 few sound.2 refl;
  leads = rest_leads at _ (codes "M") rest.reason rest.usage (signed_decimal rest.amount) rest.amount refl sound.2 refl refl;
}

sum_follows : (at : At) → KindFits at.place (codes "S") → Follows at (total_row (codes "S") at.payee (count_at at.place) (sum_at at.place)) (there Between at.payee at.portions (at.total +ℤ sum_at at.place))
sum_follows at fits = record {
  kind = codes "S";
  payee_or_reason = at.payee;
  usage_or_count = decimal (count_at at.place);
  amount_or_total = signed_decimal (sum_at at.place);
  form = refl;
  fits = sum_fits at (codes "S") at.payee (decimal (count_at at.place)) (signed_decimal (sum_at at.place)) refl fits refl refl refl;
  leads = sum_leads at (decimal (count_at at.place)) (signed_decimal (sum_at at.place));
}

rests_follow : (at : At) → KindFits at.place (codes "T") → Follows at (total_row (codes "T") [] (count_at at.place) (sum_at at.place)) (there Summed at.payee at.portions (at.total +ℤ sum_at at.place))
rests_follow at fits = record {
  kind = codes "T";
  payee_or_reason = [];
  usage_or_count = decimal (count_at at.place);
  amount_or_total = signed_decimal (sum_at at.place);
  form = refl;
  fits = rests_fit at (codes "T") [] (decimal (count_at at.place)) (signed_decimal (sum_at at.place)) refl fits refl refl refl;
  leads = rests_lead at (decimal (count_at at.place)) (signed_decimal (sum_at at.place));
}

run_follows : (at : At) (lines : ℕ) → at.place ≡ Summed → IsCount lines → Follows at (total_row (codes "R") [] lines at.total) (there (Ended lines) at.payee at.portions at.total)
run_follows at lines summed few = record {
  kind = codes "R";
  payee_or_reason = [];
  usage_or_count = decimal lines;
  amount_or_total = signed_decimal at.total;
  form = refl;
  fits = run_fits at lines summed few;
  leads = run_leads at _ (codes "R") [] (decimal lines) (signed_decimal at.total) lines refl few refl refl;
}

-- ---- rows and more rows

rows_joined : (at between last : At) (rows others : List (List (List ℕ))) → AreRows at rows between → AreRows between others last → AreRows at (rows ++ others) last
rows_joined _ _ last _ others (no_rows at) on = on
rows_joined _ _ last _ others (more_rows at next between row rows follows are) on = more_rows at next last row (rows ++ others) follows (rows_joined next between last rows others are on)

moved : (a b c : ℤ) → (a +ℤ b) +ℤ c ≡ a +ℤ (b +ℤ c)
moved a b c = omega (arith, ints)

-- the rest of a payee's portions, and their sum
portions_stand : (payee : List ℕ) (portions : List Portion) (count : ℕ) (so_far : ℤ) (read : ℕ) (total : ℤ) (all : ℕ) (sum : ℤ) → All IsPortion portions → read + length portions ≤ 10 ^ 18
    → count + length portions ≡ all → so_far +ℤ total_of_portions portions ≡ sum
    → AreRows (there (Within count so_far) payee read total) (map (portion_row payee) portions ++ total_row (codes "S") payee all sum ∷ []) (there Between payee (read + length portions) (total +ℤ sum))
portions_stand payee [] count so_far read total all sum sound few counted comes =
    let count_is : count ≡ all = omega (arith, counted) in
    let sum_is : so_far ≡ sum = sym (plus_none so_far) ∙ comes in
    let read_is : read ≡ read + 0 = omega arith in
    more_rows (there (Within count so_far) payee read total) (there Between payee (read + 0) (total +ℤ sum)) (there Between payee (read + 0) (total +ℤ sum)) (total_row (codes "S") payee all sum) []
    (subst (λ (row : List (List ℕ)). Follows (there (Within count so_far) payee read total) row (there Between payee (read + 0) (total +ℤ sum))) (λ i. total_row (codes "S") payee (count_is i) (sum_is i))
    (subst (Follows (there (Within count so_far) payee read total) (total_row (codes "S") payee count so_far)) (λ i. there Between payee (read_is i) (total +ℤ sum_is i))
    (sum_follows (there (Within count so_far) payee read total) (inr refl))))
    (no_rows (there Between payee (read + 0) (total +ℤ sum)))
portions_stand payee (portion ∷ portions) count so_far read total all sum sound few counted comes =
    let read_is : (read + 1) + length portions ≡ read + length (portion ∷ portions) = omega arith in
    let sum_is = moved so_far portion.amount (total_of_portions portions) ∙ (ap (λ (n : ℤ). so_far +ℤ n) (sym (int_sum_by-cons (λ (p : Portion). p.amount) portion portions)) ∙ comes) in
    more_rows (there (Within count so_far) payee read total) (there (Within (count + 1) (so_far +ℤ portion.amount)) payee (read + 1) total)
    (there Between payee (read + length (portion ∷ portions)) (total +ℤ sum)) (portion_row payee portion) (map (portion_row payee) portions ++ total_row (codes "S") payee all sum ∷ [])
    (portion_follows (there (Within count so_far) payee read total) payee portion (inl refl) refl (All-head IsPortion portion portions sound) (omega (arith, few)))
    (subst (λ (n : ℕ). AreRows (there (Within (count + 1) (so_far +ℤ portion.amount)) payee (read + 1) total) (map (portion_row payee) portions ++ total_row (codes "S") payee all sum ∷ [])
    (there Between payee n (total +ℤ sum))) read_is
    (portions_stand payee portions (count + 1) (so_far +ℤ portion.amount) (read + 1) total all sum (All-tail IsPortion portion portions sound) (omega (arith, few)) (omega (arith, counted)) sum_is))

-- a payee's statement
statement_stands : (last payee : List ℕ) (portions : List Portion) (read : ℕ) (total : ℤ) → IsName payee → order last payee ≡ Less → 0 < length portions → All IsPortion portions
    → read + length portions ≤ 10 ^ 18
    → AreRows (there Between last read total) (map (portion_row payee) portions ++ total_row (codes "S") payee (length portions) (total_of_portions portions) ∷ [])
    (there Between payee (read + length portions) (total +ℤ total_of_portions portions))
statement_stands last payee [] read total name behind some sound few = absurd (omega (arith, some))
statement_stands last payee (portion ∷ portions) read total name behind some sound few =
    let all = total_of_portions (portion ∷ portions) in
    let read_is : (read + 1) + length portions ≡ read + length (portion ∷ portions) = omega arith in
    let sum_is = moved (pos 0) portion.amount (total_of_portions portions) ∙ (ap (λ (n : ℤ). pos 0 +ℤ n) (sym (int_sum_by-cons (λ (p : Portion). p.amount) portion portions)) ∙ none_plus all) in
    more_rows (there Between last read total) (there (Within 1 (pos 0 +ℤ portion.amount)) payee (read + 1) total)
    (there Between payee (read + length (portion ∷ portions)) (total +ℤ all)) (portion_row payee portion) (map (portion_row payee) portions ++ total_row (codes "S") payee (length (portion ∷ portions)) all ∷ [])
    (portion_follows (there Between last read total) payee portion (inl refl) (name, behind) (All-head IsPortion portion portions sound) (omega (arith, few)))
    (subst (λ (n : ℕ). AreRows (there (Within 1 (pos 0 +ℤ portion.amount)) payee (read + 1) total) (map (portion_row payee) portions ++ total_row (codes "S") payee (length (portion ∷ portions)) all ∷ [])
    (there Between payee n (total +ℤ all))) read_is
    (portions_stand payee portions 1 (pos 0 +ℤ portion.amount) (read + 1) total (length (portion ∷ portions)) all (All-tail IsPortion portion portions sound) (omega (arith, few)) (omega arith) sum_is))

-- all payees
abbrev last_of : List ℕ → List Statement → List ℕ
last_of last [] = last
last_of last (statement ∷ statements) = last_of statement.payee statements

payees_stand : (last : List ℕ) (payees : List Statement) (read : ℕ) (total : ℤ) → All IsStatement payees → IsStrictlySortedBy order (payees_of payees)
    → AllByRecursion (λ name. order last name ≡ Less) (payees_of payees) → read + count_of payees ≤ 10 ^ 18
    → AreRows (there Between last read total) (flat_map statement_rows payees) (there Between (last_of last payees) (read + count_of payees) (total +ℤ int_sum_by total_of payees))
unfolding IsStrictlySortedBy
payees_stand last [] read total sound rising behind few =
    let read_is : read ≡ read + 0 = omega arith in
    subst (AreRows (there Between last read total) []) (λ i. there Between last (read_is i) (sym (plus_none total) i)) (no_rows (there Between last read total))
payees_stand last (statement ∷ payees) read total sound rising behind few =
    let first = All-head IsStatement statement payees sound in
    let count = sum_by-cons (λ (s : Statement). length s.portions) statement payees in
    let count_is : (read + length statement.portions) + count_of payees ≡ read + count_of (statement ∷ payees) = omega (arith, count) in
    let total_is = moved total (total_of statement) (int_sum_by total_of payees) ∙ ap (λ (n : ℤ). total +ℤ n) (sym (int_sum_by-cons total_of statement payees)) in
    rows_joined (there Between last read total) (there Between statement.payee (read + length statement.portions) (total +ℤ total_of statement))
    (there Between (last_of statement.payee payees) (read + count_of (statement ∷ payees)) (total +ℤ int_sum_by total_of (statement ∷ payees))) (statement_rows statement) (flat_map statement_rows payees)
    (statement_stands last statement.payee statement.portions read total first.payee behind.0 first.some first.portions (omega (arith, few, count)))
    (subst (AreRows (there Between statement.payee (read + length statement.portions) (total +ℤ total_of statement)) (flat_map statement_rows payees))
    (λ i. there Between (last_of statement.payee payees) (count_is i) (total_is i))
    (payees_stand statement.payee payees (read + length statement.portions) (total +ℤ total_of statement) (All-tail IsStatement statement payees sound) rising.1 rising.0 (omega (arith, few, count))))

-- what nobody gets, and its sum
rests_stand : (place : Place) (payee : List ℕ) (rests : List Rest) (read : ℕ) (total : ℤ) (all : ℕ) (sum : ℤ) → KindFits place (codes "M") → KindFits place (codes "T") → All IsRest rests
    → read + length rests ≤ 10 ^ 18 → count_at place + length rests ≡ all → sum_at place +ℤ total_of_rests rests ≡ sum
    → AreRows (there place payee read total) (map rest_row rests ++ total_row (codes "T") [] all sum ∷ []) (there Summed payee (read + length rests) (total +ℤ sum))
rests_stand place payee [] read total all sum can ends sound few counted comes =
    let count_is : count_at place ≡ all = omega (arith, counted) in
    let sum_is : sum_at place ≡ sum = sym (plus_none (sum_at place)) ∙ comes in
    let read_is : read ≡ read + 0 = omega arith in
    more_rows (there place payee read total) (there Summed payee (read + 0) (total +ℤ sum)) (there Summed payee (read + 0) (total +ℤ sum)) (total_row (codes "T") [] all sum) []
    (subst (λ (row : List (List ℕ)). Follows (there place payee read total) row (there Summed payee (read + 0) (total +ℤ sum))) (λ i. total_row (codes "T") [] (count_is i) (sum_is i))
    (subst (Follows (there place payee read total) (total_row (codes "T") [] (count_at place) (sum_at place))) (λ i. there Summed payee (read_is i) (total +ℤ sum_is i))
    (rests_follow (there place payee read total) ends)))
    (no_rows (there Summed payee (read + 0) (total +ℤ sum)))
rests_stand place payee (rest ∷ rests) read total all sum can ends sound few counted comes =
    let read_is : (read + 1) + length rests ≡ read + length (rest ∷ rests) = omega arith in
    let sum_is = moved (sum_at place) rest.amount (total_of_rests rests) ∙ (ap (λ (n : ℤ). sum_at place +ℤ n) (sym (int_sum_by-cons (λ (r : Rest). r.amount) rest rests)) ∙ comes) in
    more_rows (there place payee read total) (there (Resting (count_at place + 1) (sum_at place +ℤ rest.amount)) payee (read + 1) total)
    (there Summed payee (read + length (rest ∷ rests)) (total +ℤ sum)) (rest_row rest) (map rest_row rests ++ total_row (codes "T") [] all sum ∷ [])
    (rest_follows (there place payee read total) rest can (All-head IsRest rest rests sound) (omega (arith, few)))
    (subst (λ (n : ℕ). AreRows (there (Resting (count_at place + 1) (sum_at place +ℤ rest.amount)) payee (read + 1) total) (map rest_row rests ++ total_row (codes "T") [] all sum ∷ [])
    (there Summed payee n (total +ℤ sum))) read_is
    (rests_stand (Resting (count_at place + 1) (sum_at place +ℤ rest.amount)) payee rests (read + 1) total all sum (inl refl) (inr refl) (All-tail IsRest rest rests sound) (omega (arith, few))
    (omega (arith, counted)) sum_is))

-- ---- all rows

-- a name is behind no name
behind_none : (payees : List Statement) → All IsStatement payees → AllByRecursion (λ name. order [] name ≡ Less) (payees_of payees)
behind_none [] sound = tt
behind_none (statement ∷ payees) sound = (some statement.payee (All-head IsStatement statement payees sound).payee, behind_none payees (All-tail IsStatement statement payees sound))
  where
    some : (name : List ℕ) → IsName name → order [] name ≡ Less
    some [] is = absurd (omega (arith, is.some))
    some (byte ∷ name) is = refl

pub from_statements : (all : Statements) → AreStatements all → IsCount (count_of_portions all) → IsStatementText (text_of_statements all) all.lines
from_statements all are few = record {
  rows = rows_of_statements all;
  last = there (Ended all.lines) (last_of [] all.payees) ((0 + count_of all.payees) + length all.rests) all.amount;
  are = rows_joined at_first paid (there (Ended all.lines) (last_of [] all.payees) ((0 + count_of all.payees) + length all.rests) all.amount) (flat_map statement_rows all.payees)
      (rests_rows all.rests ++ total_row (codes "R") [] all.lines all.amount ∷ [])
      (payees_stand [] all.payees 0 (pos 0) are.payees are.rising (behind_none all.payees are.payees) (omega (arith, few)))
      (rows_joined paid summed (there (Ended all.lines) (last_of [] all.payees) ((0 + count_of all.payees) + length all.rests) all.amount) (rests_rows all.rests)
      (total_row (codes "R") [] all.lines all.amount ∷ [])
      (subst (λ (total : ℤ). AreRows paid (rests_rows all.rests) (there Summed (last_of [] all.payees) ((0 + count_of all.payees) + length all.rests) total)) comes
      (rests_stand Between (last_of [] all.payees) all.rests (0 + count_of all.payees) (pos 0 +ℤ int_sum_by total_of all.payees) (length all.rests) (total_of_rests all.rests)
      (inr (inl refl)) (inr (inr refl)) are.rests (omega (arith, few)) (omega arith) (none_plus (total_of_rests all.rests))))
      (more_rows summed _ _ (total_row (codes "R") [] all.lines all.amount) [] (run_follows summed all.lines refl are.lines) (no_rows _)));
  ended = refl;
  bytes = refl;
}
  where
    paid : At
    paid = there Between (last_of [] all.payees) (0 + count_of all.payees) (pos 0 +ℤ int_sum_by total_of all.payees)

    summed : At
    summed = there Summed (last_of [] all.payees) ((0 + count_of all.payees) + length all.rests) all.amount

    comes : (pos 0 +ℤ int_sum_by total_of all.payees) +ℤ total_of_rests all.rests ≡ all.amount
    comes = ap (λ (n : ℤ). n +ℤ total_of_rests all.rests) (none_plus (int_sum_by total_of all.payees)) ∙ are.adds_up
