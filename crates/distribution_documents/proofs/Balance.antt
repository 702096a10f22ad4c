-- What payees have and what is held back come to what came in.
use Rattle.std.proofs.Common.{◌≡◌, ◌∙◌, ◌+◌, ◌+ℤ◌, ◌-◌, ◌<◌, ◌≤◌, ◌⊎◌, ◌∷◌, [], ℕ, ℤ, inl, inr, pos, zero, suc, subst}
use Rattle.std.proofs.Common.{All, Bool, true, false, List, None, Option, Some, ap, arith, cond, drop, filter, get_or, length, ltb, map, refl, slice_get, sym}
use Rattle.std.proofs.lemmas.List.{length-map}
use Rattle.std.specs.List.{cons_option, enumerate_from}
use Rattle.std.specs.Option.{option_map}
use Rattle.std.proofs.lemmas.Int.{ints}
use Rattle.std.proofs.lemmas.List.Elements.{All-head, All-tail}
use Rattle.std.proofs.lemmas.List.Sorted.{length_permutation}
use Rattle.std.proofs.lemmas.Option.{slice_get_cases}
use Rattle.cwr_share.specs.Registered.{Registered}
use Rattle.line_split.proofs.IntSums.{int_sum_by-cons}
use Rattle.line_split.specs.Signs.{int_sum_by}
use Rattle.line_split.specs.UsageLine.{UsageLine}
use Rattle.line_split.specs.declared.reason.Reason.{Reason}
use Rattle.line_split.specs.declared.reason.Reason.TheVariants.{Work, Land, Over, Open}
use Rattle.overview_documents.specs.Payees.{PayeeLine, group_in_all}
use Rattle.payee_book.proofs.RunLemmas.{lines_below}
use Rattle.payee_book.specs.Run.{IsBookOf}
use Rattle.payee_book.specs.Statement.{total_of}
use Rattle.payee_portions.specs.Held.{held_by, held_of, is_reason}
use Rattle.payee_portions.specs.Portions.{AreListed, Portion, portions_of}
use Rattle.payee_portions.specs.Sums.{sum_of}
use Rattle.payee_portions.proofs.ListedLemmas.{each_posting_once}
use Rattle.payee_portions.proofs.SumLemmas.{int_sum_by-IsPermutation, int_sum_by-map}
use Rattle.residue_documents.specs.Page.{Residue, residue_sums}
use Rattle.residue_documents.specs.Reasons.{amount_in}
use Rattle.settle_run.specs.Settled.{AreDivided}
use Rattle.distribution_documents.specs.Runs.{IsResidue, Run, overview_of, payee_line, payees_in, statement_in}
use Rattle.distribution_documents.proofs.Accounts.{numbers}

-- ---- a statement has as many portions as postings

-- the posting that the portion is
abbrev posting_of : Portion → ℕ × ℤ
posting_of portion = (portion.row - 1, portion.amount)

pub statement_count : (table : List (ℕ × List ℕ)) (registered : Registered) (usage : List UsageLine) (title_of : List ℕ → List ℕ) (account : ℕ)
    (statement : List (ℕ × ℤ)) (listed : List Portion) → All (λ posting. posting.0 < length usage) statement
    → AreListed (portions_of table registered usage title_of account statement) listed → length listed ≡ length statement
statement_count table registered usage title_of account statement listed within are =
    let once = each_posting_once table registered usage title_of account statement listed within are in
    sym (length-map listed posting_of) ∙ length_permutation statement (map posting_of listed) once

-- ---- the accounts of payees

-- what an account that has no postings comes to
nothing : (statement : List (ℕ × ℤ)) → ltb 0 (length statement) ≡ false → total_of statement ≡ pos 0
nothing [] none = refl
nothing (posting ∷ statement) none = absurd (grind (arith, none))

-- those that come to nothing can be left out
module _ {X : Type 0} (f : X → ℤ) (p : X → Bool) (none : (x : X) → p x ≡ false → f x ≡ pos 0) where
  pub sum-filter : (xs : List X) → int_sum_by f (filter p xs) ≡ int_sum_by f xs
  sum-filter [] = refl
  sum-filter (x ∷ xs) = by (p x) refl (sum-filter xs)
    where
      by : (b : Bool) → p x ≡ b → int_sum_by f (filter p xs) ≡ int_sum_by f xs → int_sum_by f (cond b (x ∷ filter p xs) (filter p xs)) ≡ int_sum_by f (x ∷ xs)
      by true is rest = omega (arith, ints, rest, int_sum_by-cons f x (filter p xs), int_sum_by-cons f x xs)
      by false is rest = omega (arith, ints, rest, int_sum_by-cons f x xs, none x is)

-- accounts by their numbers
pub sum-numbers : {X : Type 0} (f : ℕ → ℤ) (g : X → ℤ) (d : X) (from : ℕ) (xs : List X) → ((k : ℕ) → k < length xs → f (from + k) ≡ g (get_or xs k d))
    → int_sum_by f (numbers from xs) ≡ int_sum_by g xs
sum-numbers f g d from [] same = refl
sum-numbers f g d from (x ∷ xs) same =
    let first : f from ≡ g x = ap f (omega arith) ∙ same 0 (omega arith) in
    let later = sum-numbers f g d (from + 1) xs (λ k lt. ap f (omega arith) ∙ same (suc k) (omega (arith, lt))) in
    omega (arith, ints, first, later, int_sum_by-cons f from (numbers (from + 1) xs), int_sum_by-cons g x xs)

-- all statements come to that of the residue and those of payees
pub sum_of_accounts : (statements : List (List (ℕ × ℤ)))
    → int_sum_by (λ account. total_of (get_or statements account [])) (filter (λ account. ltb 0 (length (get_or statements account []))) (numbers 1 (drop 1 statements)))
    +ℤ total_of (get_or statements 0 []) ≡ int_sum_by total_of statements
sum_of_accounts [] = refl
sum_of_accounts (residue ∷ others) =
    let kept =
    sum-filter (λ (account : ℕ). total_of (get_or (residue ∷ others) account [])) (λ (account : ℕ). ltb 0 (length (get_or (residue ∷ others) account [])))
    (λ account. nothing (get_or (residue ∷ others) account [])) (numbers 1 others) in
    let each =
    sum-numbers (λ (account : ℕ). total_of (get_or (residue ∷ others) account [])) total_of [] 1 others
    (λ k lt. let up : 1 + k ≡ suc k = omega arith in ap (λ (n : ℕ). total_of (get_or (residue ∷ others) n [])) up) in
    omega (arith, ints, kept, each, int_sum_by-cons total_of residue others)

-- ---- the reasons of the residue

abbrev amount_of : Portion → ℤ
amount_of portion = portion.amount

module _ (table : List (ℕ × List ℕ)) (registered : Registered) (usage : List UsageLine) (title_of : List ℕ → List ℕ) (reasons : List Reason) where
  abbrev held : Reason → List (ℕ × ℤ) → List Portion
  held reason residue = held_of table registered usage title_of reasons reason residue

  abbrev all_held : List (ℕ × ℤ) → ℤ
  all_held residue = sum_of (held Work residue) +ℤ sum_of (held Land residue) +ℤ sum_of (held Over residue) +ℤ sum_of (held Open residue)

  -- those with a reason, with one posting more in front, whose line has the reason `own`
  abbrev first : ℕ × ℤ → List (ℕ × ℤ) → Reason → Reason → Option UsageLine → List Portion
  first posting residue own reason line =
      cons_option (cond (is_reason own reason) (option_map (held_by table registered title_of posting) line) None) (held reason residue)

  abbrev with_first : ℕ × ℤ → List (ℕ × ℤ) → Reason → Option UsageLine → ℤ
  with_first posting residue own line =
      sum_of (first posting residue own Work line) +ℤ sum_of (first posting residue own Land line) +ℤ sum_of (first posting residue own Over line) +ℤ sum_of (first posting residue own Open line)

  pub sum_of_reasons : (residue : List (ℕ × ℤ)) → All (λ posting. posting.0 < length usage) residue → all_held residue ≡ total_of residue
  sum_of_reasons [] within = refl
  sum_of_reasons (posting ∷ residue) within =
      by (slice_get_cases usage posting.0).1 (All-head (λ posting. posting.0 < length usage) posting residue within)
      (sum_of_reasons residue (All-tail (λ posting. posting.0 < length usage) posting residue within))
    where
      added : (line : UsageLine) (reason : Reason) → sum_of (held_by table registered title_of posting line ∷ held reason residue) ≡ posting.1 +ℤ sum_of (held reason residue)
      added line reason = int_sum_by-cons amount_of (held_by table registered title_of posting line) (held reason residue)

      whole : total_of (posting ∷ residue) ≡ posting.1 +ℤ total_of residue
      whole = int_sum_by-cons (λ (posting : ℕ × ℤ). posting.1) posting residue

      one : (own : Reason) (line : UsageLine) → all_held residue ≡ total_of residue → with_first posting residue own (Some line) ≡ total_of (posting ∷ residue)
      one Work line rest = omega (arith, ints, rest, whole, added line Work)
      one Land line rest = omega (arith, ints, rest, whole, added line Land)
      one Over line rest = omega (arith, ints, rest, whole, added line Over)
      one Open line rest = omega (arith, ints, rest, whole, added line Open)

      by : ((line : UsageLine) × (posting.0 < length usage) × (slice_get usage posting.0 ≡ Some line) × (get_or usage posting.0 line ≡ line))
          ⊎ ((length usage ≤ posting.0) × (slice_get usage posting.0 ≡ None))
          → posting.0 < length usage → all_held residue ≡ total_of residue
          → with_first posting residue (get_or reasons posting.0 Open) (slice_get usage posting.0) ≡ total_of (posting ∷ residue)
      by (inl (line, below, is, at)) within rest = ap (with_first posting residue (get_or reasons posting.0 Open)) is ∙ one (get_or reasons posting.0 Open) line rest
      by (inr (past, is)) within rest = absurd (omega (arith, past, within))

-- ---- the overview

-- the postings of the residue are of the lines there are
first_within : (division : UsageLine → List (ℕ × ℤ)) (usage : List UsageLine) (accounts : ℕ) (book : List (List (ℕ × ℤ))) → IsBookOf division usage accounts book
    → All (λ posting. posting.0 < length usage) (get_or book 0 [])
first_within division usage accounts [] is = λ k d lt. absurd (omega (arith, lt))
first_within division usage accounts (residue ∷ later) is =
    subst (All (λ posting. posting.0 < length usage)) (sym (is.each 0 (omega (arith, is.whole)))) (lines_below division usage 0)

pub in_balance : (run : Run) (residue : Residue) → AreDivided run.tables run.statements run.reasons → IsResidue run residue
    → (group_in_all (overview_of run residue).payees).amount +ℤ amount_in (overview_of run residue).residue ≡ (overview_of run residue).lines.amount
in_balance run residue divided is =
    let statement : List (ℕ × ℤ) = statement_in run 0 in
    let within : All (λ posting. posting.0 < length run.tables.usage) statement = first_within _ run.tables.usage _ run.statements divided.divided in
    let same : (reason : Reason) → sum_of (residue reason)
    ≡ sum_of (held_of run.tables.territories run.tables.registry run.tables.usage run.title_of run.reasons reason statement) =
    λ reason. int_sum_by-IsPermutation (λ (portion : Portion). portion.amount)
    (held_of run.tables.territories run.tables.registry run.tables.usage run.title_of run.reasons reason statement) (residue reason) (is.listed reason).same in
    let held = sum_of_reasons run.tables.territories run.tables.registry run.tables.usage run.title_of run.reasons statement within in
    let kept : amount_in (residue_sums residue) ≡ total_of statement = (λ i. same Work i +ℤ same Land i +ℤ same Over i +ℤ same Open i) ∙ held in
    let payees : int_sum_by (λ (payee : PayeeLine). payee.total) (map (payee_line run) (payees_in run))
    ≡ int_sum_by (λ (account : ℕ). total_of (get_or run.statements account [])) (payees_in run) =
    int_sum_by-map (payee_line run) (λ (payee : PayeeLine). payee.total) (payees_in run) in
    (λ i. payees i +ℤ kept i) ∙ (sum_of_accounts run.statements ∙ divided.adds_up)
