-- What a run says of its lines keeps to the limits of statements.
use Rattle.std.proofs.Common.{◌≡◌, ◌∙◌, ◌+◌, ◌^◌, ◌<◌, ◌≤◌, ◌++◌, ◌∷◌, ◌==◌, [], ℕ, ℤ, ◌+ℤ◌, unsigned_abs, Bool, true, false, not, List, All, length, map, sum_by, ap, refl, arith}
use Rattle.std.specs.Prelude.{flat_map, if◌then◌else◌}
use Rattle.std.specs.Cmp.Lexicographic.{slice_cmp}
use Rattle.std.specs.List.{AllByRecursion, filter}
use Rattle.std.specs.List.Sorted.{IsStrictlySortedBy}
use Rattle.std.specs.Ordering.{nat_cmp}
use Rattle.std.specs.declared.cmp.Ordering.TheVariants.{Less}
use Rattle.std.proofs.lemmas.List.{length-append, length-map}
use Rattle.std.proofs.lemmas.List.Elements.{All-append, All-cons, All-head, All-map, All-nil, All-same, All-tail, All-weaker}
use Rattle.std.proofs.lemmas.List.Filters.{sum_by-filter_both}
use Rattle.line_split.specs.LargestRemainder.{portions_of}
use Rattle.line_split.specs.Signs.{int_sum_by, is_not_zero, signed_entry, signed_portions_of, with_sign_of}
use Rattle.line_split.specs.UsageLine.{UsageLine, amount_of, line_of}
use Rattle.line_split.specs.UsageTable.{IsLine, IsTableOf}
use Rattle.line_split.specs.declared.TheConstants.{MOST_LINES}
use Rattle.csv_table.proofs.InTurn.{each_sound}
use Rattle.line_split.specs.declared.reason.Reason.{Reason}
use Rattle.line_split.proofs.Fair.{portions_are_fair}
use Rattle.line_split.proofs.IntSums.{int_sum_by_size}
use Rattle.line_split.proofs.Signs.{signed_sum, size_of_signed}
use Rattle.line_split.proofs.UsageRows.{signed_small}
use Rattle.payee_book.specs.Run.{portion_for}
use Rattle.line_split.specs.ReasonTexts.{reason_text}
use Rattle.merge_statements.specs.Statements.{AreStatements, IsAmount, IsName, IsPortion, IsReason, IsRest, IsStatement, Portion, Rest, Statement, total_of, total_of_rests}
use Rattle.merge_statements.proofs.OneMerge.{payees_of}
use Rattle.merge_laws.proofs.Said.{made_of, portions_by, rests_by, said_of, statements_by, statements_with}
use Rattle.merge_statements.proofs.ReadBack.{the_portion, the_rest, the_statement}

-- Lines

-- what its use is called is a name, and its amount in its limits
abbrev pub IsInLimits : UsageLine → Type 0
IsInLimits line = IsName line.usage × (unsigned_abs line.amount ≤ 1000000000000)

pub lines_in_limits : (rows : List (List (List ℕ))) (lines : List UsageLine) → IsTableOf rows lines → All IsInLimits lines
lines_in_limits rows lines is =
    All-same IsInLimits lines (map line_of is.below) is.are.same
    (All-map IsInLimits line_of is.below (All-weaker IsLine (λ row. IsInLimits (line_of row))
    (λ row line. (line.texts.0, signed_small 1000000000000 (amount_of row) line.amount)) is.below (each_sound IsLine is.below is.are.sound)))

-- nor are they more than a list has
pub few_lines : (rows : List (List (List ℕ))) (lines : List UsageLine) → IsTableOf rows lines → length lines ≤ MOST_LINES
few_lines rows lines is = omega (arith, is.are.few, ap length is.are.same, length-map is.below line_of)

-- Portions

kept_alike : (kept : Bool) (amount : ℤ) (entry : ℕ × ℕ) (left : List (ℕ × ℤ)) (right : List (ℕ × ℕ)) → left ≡ map (signed_entry amount) right
    → (if kept then signed_entry amount entry ∷ left else left) ≡ map (signed_entry amount) (if kept then entry ∷ right else right)
kept_alike true amount entry left right same = ap (λ (l : List (ℕ × ℤ)). signed_entry amount entry ∷ l) same
kept_alike false amount entry left right same = same

own_sizes : (amount : ℤ) (account : ℕ) (sizes : List (ℕ × ℕ))
    → filter (λ portion. portion.0 == account) (map (signed_entry amount) sizes) ≡ map (signed_entry amount) (filter (λ portion. portion.0 == account) sizes)
own_sizes amount account [] = refl
own_sizes amount account (entry ∷ sizes) =
    kept_alike (entry.0 == account) amount entry (filter (λ portion. portion.0 == account) (map (signed_entry amount) sizes)) (filter (λ portion. portion.0 == account) sizes)
    (own_sizes amount account sizes)

-- what an account has of an amount is no larger than it
pub portion_small : (amount : ℤ) (claims : List (ℕ × ℕ)) (account : ℕ) → unsigned_abs (portion_for account (signed_portions_of amount claims)) ≤ unsigned_abs amount
portion_small amount claims account =
    let sizes = portions_of (unsigned_abs amount) claims in
    let own = filter {X = ℕ × ℕ} (λ portion. portion.0 == account) sizes in
    let is : portion_for account (signed_portions_of amount claims) ≡ with_sign_of amount (sum_by (λ (portion : ℕ × ℕ). portion.1) own) =
    ap (int_sum_by (λ (portion : ℕ × ℤ). portion.1)) (own_sizes amount account sizes) ∙ signed_sum amount own in
    let size : unsigned_abs (portion_for account (signed_portions_of amount claims)) ≡ sum_by (λ (portion : ℕ × ℕ). portion.1) own =
    ap unsigned_abs is ∙ size_of_signed amount (sum_by (λ (portion : ℕ × ℕ). portion.1) own) in
    let both = sum_by-filter_both {X = ℕ × ℕ} (λ portion. portion.0 == account) (λ portion. not (portion.0 == account)) (λ portion. refl) (λ portion. portion.1) sizes in
    let all = (portions_are_fair (unsigned_abs amount) claims).adds_up in
    omega (arith, size, both, all)

module _ {X : Type 0} (make : UsageLine → ℤ → X) (division : UsageLine → List (ℕ × ℤ)) (account : ℕ) where
  one_made : (P : X → Type 0) (line : UsageLine) (amount : ℤ) (kept : Bool) → is_not_zero amount ≡ kept → (is_not_zero amount ≡ true → P (make line amount))
      → All P (if kept then make line amount ∷ [] else [])
  one_made P line amount true is holds = All-cons P (make line amount) [] (holds is) (All-nil P)
  one_made P line amount false is holds = All-nil P

  -- it holds of what an account has of a line, if of anything
  abbrev HoldsOf : (X → Type 0) → UsageLine → Type 0
  HoldsOf P line = is_not_zero (portion_for account (division line)) ≡ true → P (make line (portion_for account (division line)))

  -- what holds of all that an account has
  all_made : (P : X → Type 0) (lines : List UsageLine) → All (HoldsOf P) lines → All P (flat_map (made_of make division account) lines)
  all_made P [] each = All-nil P
  all_made P (line ∷ lines) each =
      let portion = portion_for account (division line) in
      All-append P (made_of make division account line) (flat_map (made_of make division account) lines)
      (one_made P line portion (is_not_zero portion) refl (All-head (HoldsOf P) line lines each)) (all_made P lines (All-tail (HoldsOf P) line lines each))

  one_at_most : (line : UsageLine) (amount : ℤ) (kept : Bool) → length (if kept then make line amount ∷ [] else []) ≤ 1
  one_at_most line amount true = omega arith
  one_at_most line amount false = omega arith

  -- it has one thing of a line at most
  few_made : (lines : List UsageLine) → length (flat_map (made_of make division account) lines) ≤ length lines
  few_made [] = omega arith
  few_made (line ∷ lines) =
      let portion = portion_for account (division line) in
      omega (
        arith,
        one_at_most line portion (is_not_zero portion),
        few_made lines,
        length-append (made_of make division account line) (flat_map (made_of make division account) lines),
      )

-- Statements

module _ (division : UsageLine → List (ℕ × ℤ)) (lines : List UsageLine) where
  with_name : (P : List ℕ → Type 0) (name : List ℕ) (portions : List Portion) (others : List Statement) → P name → AllByRecursion P (payees_of others)
      → AllByRecursion P (payees_of (statements_with name portions ++ others))
  with_name P name [] others holds each = each
  with_name P name (portion ∷ portions) others holds each = (holds, each)

  -- the payees are some of the names
  some_names : (P : List ℕ → Type 0) (account : ℕ) (names : List (List ℕ)) → AllByRecursion P names → AllByRecursion P (payees_of (statements_by division lines account names))
  some_names P account [] each = tt
  some_names P account (name ∷ names) each =
      with_name P name (portions_by division lines account) (statements_by division lines (account + 1) names) each.0 (some_names P (account + 1) names each.1)

  first_rises : (name : List ℕ) (portions : List Portion) (others : List Statement) → AllByRecursion (λ other. slice_cmp nat_cmp name other ≡ Less) (payees_of others)
      → IsStrictlySortedBy (slice_cmp nat_cmp) (payees_of others) → IsStrictlySortedBy (slice_cmp nat_cmp) (payees_of (statements_with name portions ++ others))
  unfolding IsStrictlySortedBy
  first_rises name [] others after rising = rising
  first_rises name (portion ∷ portions) others after rising = (after, rising)

  -- so they rise
  pub payees_rise : (account : ℕ) (names : List (List ℕ)) → IsStrictlySortedBy (slice_cmp nat_cmp) names
      → IsStrictlySortedBy (slice_cmp nat_cmp) (payees_of (statements_by division lines account names))
  unfolding IsStrictlySortedBy
  payees_rise account [] rising = tt
  payees_rise account (name ∷ names) rising =
      first_rises name (portions_by division lines account) (statements_by division lines (account + 1) names)
      (some_names (λ other. slice_cmp nat_cmp name other ≡ Less) (account + 1) names rising.0) (payees_rise (account + 1) names rising.1)

  with_statement : (P : Statement → Type 0) (name : List ℕ) (portions : List Portion) (others : List Statement)
      → (0 < length portions → P (the_statement name portions)) → All P others → All P (statements_with name portions ++ others)
  with_statement P name [] others holds each = each
  with_statement P name (portion ∷ portions) others holds each = All-cons P (the_statement name (portion ∷ portions)) others (holds (omega arith)) each

  -- what holds of the statements of all names
  pub all_statements : (P : Statement → Type 0) (Q : List ℕ → Type 0) (account : ℕ) (names : List (List ℕ)) → All Q names
      → ((name : List ℕ) (account : ℕ) → Q name → 0 < length (portions_by division lines account) → P (the_statement name (portions_by division lines account)))
      → All P (statements_by division lines account names)
  all_statements P Q account [] each holds = All-nil P
  all_statements P Q account (name ∷ names) each holds =
      with_statement P name (portions_by division lines account) (statements_by division lines (account + 1) names) (holds name account (All-head Q name names each))
      (all_statements P Q (account + 1) names (All-tail Q name names each) holds)

not_zero : (amount : ℤ) → is_not_zero amount ≡ true → 0 < unsigned_abs amount
not_zero amount is = grind (arith, is)

is_reason : (reason : Reason) → IsReason (reason_text reason)
is_reason reason = (reason, refl)

module _ (division : UsageLine → List (ℕ × ℤ)) (small : (account : ℕ) (line : UsageLine) → unsigned_abs (portion_for account (division line)) ≤ unsigned_abs line.amount)
    (lines : List UsageLine) (sound : All IsInLimits lines) where
  is_amount : (account : ℕ) (line : UsageLine) → IsInLimits line → is_not_zero (portion_for account (division line)) ≡ true → IsAmount (portion_for account (division line))
  is_amount account line limits some = (not_zero (portion_for account (division line)) some, omega (arith, small account line, limits.1))

  are_portions : (account : ℕ) → All IsPortion (portions_by division lines account)
  are_portions account =
      all_made (λ line. the_portion line.usage) division account IsPortion lines
      (All-weaker IsInLimits (HoldsOf (λ line. the_portion line.usage) division account IsPortion) (λ line limits some. (limits.0, is_amount account line limits some)) lines sound)

  are_rests : (reason : UsageLine → Reason) → All IsRest (rests_by division reason lines)
  are_rests reason =
      all_made (λ line. the_rest (reason_text (reason line)) line.usage) division 0 IsRest lines
      (All-weaker IsInLimits (HoldsOf (λ line. the_rest (reason_text (reason line)) line.usage) division 0 IsRest)
      (λ line limits some. (is_reason (reason line), limits.0, is_amount 0 line limits some)) lines sound)

  -- sums of so few are not large
  pub total_small : length lines ≤ 1000000 → (account : ℕ) → unsigned_abs (int_sum_by (λ portion. portion.amount) (portions_by division lines account)) ≤ 10 ^ 18
  total_small few account =
      omega (
        arith,
        int_sum_by_size (λ (portion : Portion). portion.amount) 1000000000000 (portions_by division lines account)
            (All-weaker IsPortion (λ portion. unsigned_abs portion.amount ≤ 1000000000000) (λ portion is. is.1.1) (portions_by division lines account) (are_portions account)),
        few_made (λ line. the_portion line.usage) division account lines,
        few,
      )

  pub rest_small : length lines ≤ 1000000 → (reason : UsageLine → Reason) → unsigned_abs (total_of_rests (rests_by division reason lines)) ≤ 10 ^ 18
  rest_small few reason =
      omega (
        arith,
        int_sum_by_size (λ (rest : Rest). rest.amount) 1000000000000 (rests_by division reason lines)
            (All-weaker IsRest (λ rest. unsigned_abs rest.amount ≤ 1000000000000) (λ rest is. is.2.1) (rests_by division reason lines) (are_rests reason)),
        few_made (λ line. the_rest (reason_text (reason line)) line.usage) division 0 lines,
        few,
      )

  pub amount_small : length lines ≤ 1000000 → unsigned_abs (int_sum_by (λ line. line.amount) lines) ≤ 10 ^ 18
  amount_small few =
      omega (
        arith,
        int_sum_by_size (λ (line : UsageLine). line.amount) 1000000000000 lines
            (All-weaker IsInLimits (λ line. unsigned_abs line.amount ≤ 1000000000000) (λ line is. is.1) lines sound),
        few,
      )

  -- what is said of lines are statements
  pub said_are : (reason : UsageLine → Reason) (names : List (List ℕ)) → length lines ≤ 1000000 → IsStrictlySortedBy (slice_cmp nat_cmp) names → All IsName names
      → int_sum_by total_of (statements_by division lines 1 names) +ℤ total_of_rests (rests_by division reason lines) ≡ int_sum_by (λ line. line.amount) lines
      → AreStatements (said_of division reason names lines)
  said_are reason names few rising named adds_up = record {
    rising = payees_rise division lines 1 names rising;
    payees = all_statements division lines IsStatement IsName 1 names named (λ name account is some. record { payee = is; some = some; portions = are_portions account });
    rests = are_rests reason;
    adds_up = adds_up;
    lines = omega (arith, few);
    amount = omega (arith, amount_small few);
    totals = all_statements division lines (λ statement. unsigned_abs (total_of statement) ≤ 10 ^ 30) IsName 1 names named (λ name account is some. omega (arith, total_small few account));
    rest = omega (arith, rest_small few reason);
  }
