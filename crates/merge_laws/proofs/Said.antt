-- What the text of a run's statements says, line by line.
use Rattle.std.proofs.Common.{◌≡◌, ◌∙◌, ◌+◌, ◌<◌, ◌++◌, ◌∷◌, [], zero, suc, ℕ, ℤ, pos, ◌+ℤ◌, Bool, true, false, List, codes, fold, get_or, length, map, ap, refl, sym, zero-add, arith}
use Rattle.std.specs.Prelude.{◌==◌, flat_map, if◌then◌else◌, zip}
use Rattle.std.specs.List.{enumerate_from, filter}
use Rattle.std.proofs.lemmas.Grind.{flat_map-append}
use Rattle.std.proofs.lemmas.Int.{ints}
use Rattle.std.proofs.lemmas.List.{append-nil, ext_get_or, get_or-map, length-map}
use Rattle.cwr_share.proofs.ClaimLemmas.{map_twice}
use Rattle.line_split.specs.Signs.{int_sum_by, is_not_zero}
use Rattle.line_split.proofs.IntSums.{int_sum_by-append, int_sum_by-cons, none_plus}
use Rattle.line_split.specs.UsageLine.{UsageLine}
use Rattle.line_split.specs.declared.reason.Reason.{Reason}
use Rattle.payee_book.specs.Run.{IsBookOf, portion_for, statement_of}
use Rattle.payee_book.specs.Statement.{total_of as total_of_postings}
use Rattle.line_split.specs.ReasonTexts.{reason_text}
use Rattle.payee_book.specs.Text.{payee_rows, reason_at, residue_rows, rows_of_book, run_row, usage_at}
use Rattle.merge_statements.proofs.ReadBack.{the_portion, the_rest, the_statement}
use Rattle.merge_statements.specs.Statements.{Portion, Rest, Statement, Statements, portion_row, rest_row, rests_rows, rows_of_statements, statement_rows, total_of, total_of_rests, total_row}

-- Lists

sum_fused_from : {X Y : Type 0} (f : X → Y) (g : Y → ℤ) (start : ℤ) (xs : List X)
    → fold (λ (sum : ℤ) (y : Y). sum +ℤ g y) start (map f xs) ≡ fold (λ (sum : ℤ) (x : X). sum +ℤ g (f x)) start xs
sum_fused_from f g start [] = refl
sum_fused_from f g start (x ∷ xs) = sum_fused_from f g (start +ℤ g (f x)) xs

pub sum_fused : {X Y : Type 0} (f : X → Y) (g : Y → ℤ) (xs : List X) → int_sum_by g (map f xs) ≡ int_sum_by (λ x. g (f x)) xs
sum_fused f g xs = sum_fused_from f g (pos 0) xs

plus_swap : (a b : ℤ) → a +ℤ b ≡ b +ℤ a
plus_swap a b = omega (arith, ints)

-- Statements

-- a payee's statement, where it has a portion
abbrev pub statements_with : List ℕ → List Portion → List Statement
statements_with payee [] = []
statements_with payee (portion ∷ portions) = the_statement payee (portion ∷ portions) ∷ []

-- what an account has of a line: its portion, where that is not 0
abbrev pub made_of : {X : Type 0} → (UsageLine → ℤ → X) → (UsageLine → List (ℕ × ℤ)) → (account : ℕ) → UsageLine → List X
made_of make division account line =
    let portion = portion_for account (division line) in
    if is_not_zero portion then make line portion ∷ [] else []

-- and of lines
abbrev pub portions_by : (UsageLine → List (ℕ × ℤ)) → List UsageLine → (account : ℕ) → List Portion
portions_by division lines account = flat_map (made_of (λ line. the_portion line.usage) division account) lines

abbrev pub rests_by : (UsageLine → List (ℕ × ℤ)) → (UsageLine → Reason) → List UsageLine → List Rest
rests_by division reason lines = flat_map (made_of (λ line. the_rest (reason_text (reason line)) line.usage) division 0) lines

-- the statements of the accounts from a number on, which have these names
abbrev pub statements_by : (UsageLine → List (ℕ × ℤ)) → List UsageLine → ℕ → (names : List (List ℕ)) → List Statement
statements_by division lines account [] = []
statements_by division lines account (name ∷ names) = statements_with name (portions_by division lines account) ++ statements_by division lines (account + 1) names

-- all that is said of lines
abbrev pub said_of : (UsageLine → List (ℕ × ℤ)) → (UsageLine → Reason) → (names : List (List ℕ)) → List UsageLine → Statements
said_of division reason names lines = record {
  payees = statements_by division lines 1 names;
  rests = rests_by division reason lines;
  lines = length lines;
  amount = int_sum_by (λ line. line.amount) lines;
}

-- Postings

kept_or_not : {X : Type 0} (kept : Bool) (posting : ℕ × ℤ) (made : ℕ × ℤ → X) (x : X) (later : List (ℕ × ℤ)) (rest : List X) → made posting ≡ x → map made later ≡ rest
    → map made (if kept then posting ∷ later else later) ≡ (if kept then x ∷ [] else []) ++ rest
kept_or_not true posting made x later rest first others = λ i. first i ∷ others i
kept_or_not false posting made x later rest first others = others

-- The postings of an account, each with what there is at its line's number, are what the account has of the lines in their order.
postings_made : {X : Type 0} (at : ℕ → ℤ → X) (make : UsageLine → ℤ → X) (division : UsageLine → List (ℕ × ℤ)) (account from : ℕ) (lines : List UsageLine)
    → ((place : ℕ) (amount : ℤ) (d : UsageLine) → place < length lines → at (from + place) amount ≡ make (get_or lines place d) amount)
    → map (λ (posting : ℕ × ℤ). at posting.0 posting.1)
    (filter (λ posting. is_not_zero posting.1) (map (λ e. (e.0, portion_for account (division e.1))) (enumerate_from from lines)))
    ≡ flat_map (made_of make division account) lines
postings_made at make division account from [] finds = refl
postings_made {X} at make division account from (line ∷ lines) finds =
    let portion = portion_for account (division line) in
    let here : from ≡ from + 0 = omega arith in
    let later : (place : ℕ) (amount : ℤ) (d : UsageLine) → place < length lines → at (from + 1 + place) amount ≡ make (get_or lines place d) amount =
    λ place amount d within.
    let moved : from + 1 + place ≡ from + suc place = omega arith in
    ap (λ (k : ℕ). at k amount) moved ∙ finds (suc place) amount d (omega (arith, within)) in
    kept_or_not (is_not_zero portion) (from, portion) (λ (posting : ℕ × ℤ). at posting.0 posting.1) (make line portion)
    (filter (λ posting. is_not_zero posting.1) (map (λ e. (e.0, portion_for account (division e.1))) (enumerate_from (from + 1) lines)))
    (flat_map (made_of make division account) lines)
    (ap (λ (k : ℕ). at k portion) here ∙ finds 0 portion line (omega arith))
    (postings_made at make division account (from + 1) lines later)

module _ (division : UsageLine → List (ℕ × ℤ)) (lines : List UsageLine) where
  abbrev portion_said : ℕ × ℤ → Portion
  portion_said posting = the_portion (usage_at lines posting.0) posting.1

  use_at : (place : ℕ) (d : UsageLine) → place < length lines → usage_at lines (0 + place) ≡ (get_or lines place d).usage
  use_at place d within = ap (usage_at lines) (zero-add place) ∙ get_or-map (λ (line : UsageLine). line.usage) lines place d [] within

  -- an account's portions
  pub portions_said : (account : ℕ) → map portion_said (statement_of division lines account) ≡ portions_by division lines account
  portions_said account =
      postings_made (λ place amount. the_portion (usage_at lines place) amount) (λ line amount. the_portion line.usage amount) division account 0 lines
      (λ place amount d within. ap (λ (usage : List ℕ). the_portion usage amount) (use_at place d within))

  -- the rows of a payee
  payee_rows_said : (party : List ℕ) (statement : List (ℕ × ℤ)) → payee_rows lines party statement ≡ flat_map statement_rows (statements_with party (map portion_said statement))
  payee_rows_said party [] = refl
  payee_rows_said party (posting ∷ statement) =
      let all = posting ∷ statement in
      let some : (length all == 0) ≡ false = grind arith in
      rw some (sym (
      append-nil (statement_rows (the_statement party (map portion_said all)))
      ∙ (λ i. map_twice portion_said (portion_row party) all i
      ++ total_row (codes "S") party (length-map all portion_said i) (sum_fused portion_said (λ portion. portion.amount) all i) ∷ [])
      ))

  -- the statements of accounts from a number on, one for each name
  abbrev pub statements_from : ℕ → List (List ℕ) → List (List (ℕ × ℤ))
  statements_from account [] = []
  statements_from account (name ∷ names) = statement_of division lines account ∷ statements_from (account + 1) names

  statements_count : (account : ℕ) (names : List (List ℕ)) → length (statements_from account names) ≡ length names
  statements_count account [] = refl
  statements_count account (name ∷ names) = ap suc (statements_count (account + 1) names)

  statements_each : (account place : ℕ) (names : List (List ℕ)) → place < length names → get_or (statements_from account names) place [] ≡ statement_of division lines (account + place)
  statements_each account place [] within = absurd (omega (arith, within))
  statements_each account zero (name ∷ names) within = let here : account ≡ account + 0 = omega arith in ap (statement_of division lines) here
  statements_each account (suc place) (name ∷ names) within =
      let moved : account + 1 + place ≡ account + suc place = omega arith in
      statements_each (account + 1) place names (omega (arith, within)) ∙ ap (statement_of division lines) moved

  -- they are a book
  pub from_book : (names : List (List ℕ)) → IsBookOf division lines (length names) (statements_from 0 names)
  from_book names = record {
    whole = statements_count 0 names;
    each = λ account within. statements_each 0 account names within ∙ ap (statement_of division lines) (zero-add account);
  }

  -- and every book is these
  book_is : (names : List (List ℕ)) (book : List (List (ℕ × ℤ))) → IsBookOf division lines (length names) book → book ≡ statements_from 0 names
  book_is names book is =
      ext_get_or [] book (statements_from 0 names) (is.whole ∙ sym (statements_count 0 names))
      (λ account within.
      let low : account < length names = omega (arith, within, is.whole) in
      is.each account low ∙ sym ((from_book names).each account low))

  -- the rows of all payees
  payees_said : (account : ℕ) (names : List (List ℕ))
      → flat_map (λ e. payee_rows lines e.0 e.1) (zip names (statements_from account names)) ≡ flat_map statement_rows (statements_by division lines account names)
  payees_said account [] = refl
  payees_said account (name ∷ names) =
      let first : payee_rows lines name (statement_of division lines account) ≡ flat_map statement_rows (statements_with name (portions_by division lines account)) =
      payee_rows_said name (statement_of division lines account) ∙ ap (λ (portions : List Portion). flat_map statement_rows (statements_with name portions)) (portions_said account) in
      (λ i. first i ++ payees_said (account + 1) names i)
      ∙ sym (flat_map-append statement_rows (statements_with name (portions_by division lines account)) (statements_by division lines (account + 1) names))

  -- what they come to
  one_total : (name : List ℕ) (portions : List Portion) → int_sum_by (λ portion. portion.amount) portions ≡ int_sum_by total_of (statements_with name portions)
  one_total name [] = refl
  one_total name (portion ∷ portions) = sym (none_plus (int_sum_by (λ (p : Portion). p.amount) (portion ∷ portions)))

  totals_said : (account : ℕ) (names : List (List ℕ)) → int_sum_by total_of_postings (statements_from account names) ≡ int_sum_by total_of (statements_by division lines account names)
  totals_said account [] = refl
  totals_said account (name ∷ names) =
      let portions = portions_by division lines account in
      let first : total_of_postings (statement_of division lines account) ≡ int_sum_by total_of (statements_with name portions) =
      sym (sum_fused portion_said (λ portion. portion.amount) (statement_of division lines account))
      ∙ ap (int_sum_by (λ (p : Portion). p.amount)) (portions_said account)
      ∙ one_total name portions in
      int_sum_by-cons total_of_postings (statement_of division lines account) (statements_from (account + 1) names)
      ∙ (λ i. first i +ℤ totals_said (account + 1) names i)
      ∙ sym (int_sum_by-append total_of (statements_with name portions) (statements_by division lines (account + 1) names))

  module _ (reason : UsageLine → Reason) where
    abbrev rest_said : ℕ × ℤ → Rest
    rest_said posting = the_rest (reason_at (map reason lines) posting.0) (usage_at lines posting.0) posting.1

    reason_there : (place : ℕ) (d : UsageLine) → place < length lines → reason_at (map reason lines) (0 + place) ≡ reason_text (reason (get_or lines place d))
    reason_there place d within =
        ap (reason_at (map reason lines)) (zero-add place)
        ∙ get_or-map reason_text (map reason lines) place (reason d) [] (omega (arith, within, length-map lines reason))
        ∙ ap reason_text (get_or-map reason lines place d (reason d) within)

    -- what nobody gets
    rests_said : map rest_said (statement_of division lines 0) ≡ rests_by division reason lines
    rests_said =
        postings_made (λ place amount. the_rest (reason_at (map reason lines) place) (usage_at lines place) amount) (λ line amount. the_rest (reason_text (reason line)) line.usage amount)
        division 0 0 lines (λ place amount d within. λ i. the_rest (reason_there place d within i) (use_at place d within i) amount)

    residue_said : (statement : List (ℕ × ℤ)) → residue_rows lines (map reason lines) statement ≡ rests_rows (map rest_said statement)
    residue_said statement = sym (λ i.
        map_twice rest_said rest_row statement i ++ total_row (codes "T") [] (length-map statement rest_said i) (sum_fused rest_said (λ rest. rest.amount) statement i) ∷ [])

    -- the rows of a book say this
    pub rows_said : (names : List (List ℕ)) (book : List (List (ℕ × ℤ))) → IsBookOf division lines (length ([] ∷ names)) book
        → rows_of_book book lines ([] ∷ names) (map reason lines) ≡ rows_of_statements (said_of division reason names lines)
    rows_said names book is =
        let residue : residue_rows lines (map reason lines) (statement_of division lines 0) ≡ rests_rows (rests_by division reason lines) =
        residue_said (statement_of division lines 0) ∙ ap rests_rows rests_said in
        ap (λ (statements : List (List (ℕ × ℤ))). rows_of_book statements lines ([] ∷ names) (map reason lines)) (book_is ([] ∷ names) book is)
        ∙ (λ i. payees_said 1 names i ++ (residue i ++ run_row lines ∷ []))

    -- and come to this
    pub sums_said : (names : List (List ℕ)) (book : List (List (ℕ × ℤ))) → IsBookOf division lines (length ([] ∷ names)) book
        → int_sum_by total_of_postings book ≡ int_sum_by total_of (statements_by division lines 1 names) +ℤ total_of_rests (rests_by division reason lines)
    sums_said names book is =
        let residue : total_of_postings (statement_of division lines 0) ≡ total_of_rests (rests_by division reason lines) =
        sym (sum_fused rest_said (λ rest. rest.amount) (statement_of division lines 0)) ∙ ap total_of_rests rests_said in
        ap (int_sum_by total_of_postings) (book_is ([] ∷ names) book is)
        ∙ int_sum_by-cons total_of_postings (statement_of division lines 0) (statements_from 1 names)
        ∙ (λ i. residue i +ℤ totals_said 1 names i)
        ∙ plus_swap (total_of_rests (rests_by division reason lines)) (int_sum_by total_of (statements_by division lines 1 names))
