-- A list of portions has each posting of the statement once.
use Rattle.std.proofs.Common.{◌≡◌, ◌∙◌, ◌+◌, ◌-◌, ◌<◌, ◌≤◌, ◌∷◌, ◌⊎◌, [], ℕ, ℤ, All, List, None, Option, Some, IsPermutation, ap, arith, get_or, inl, inr, length, map, refl, slice_get, subst, sym}
use Rattle.std.specs.List.{cons_option}
use Rattle.std.specs.Option.{option_map}
use Rattle.std.proofs.lemmas.List.Elements.{All-head, All-tail}
use Rattle.std.proofs.lemmas.List.Sorted.{IsPermutation-map}
use Rattle.std.proofs.lemmas.Option.{slice_get_cases}
use Rattle.cwr_share.specs.Registered.{Registered}
use Rattle.line_split.specs.UsageLine.{UsageLine}
use Rattle.payee_book.specs.Statement.{total_of}
use Rattle.payee_portions.specs.Portions.{AreListed, Portion, portion_by, portions_of}
use Rattle.payee_portions.specs.Sums.{sum_of}
use Rattle.payee_portions.proofs.SumLemmas.{int_sum_by-IsPermutation, int_sum_by-map}

-- the posting that the portion is
abbrev posting_of : Portion → ℕ × ℤ
posting_of portion = (portion.row - 1, portion.amount)

module _ (table : List (ℕ × List ℕ)) (registered : Registered) (usage : List UsageLine) (title_of : List ℕ → List ℕ) (account : ℕ) where
  abbrev IsWithin : ℕ × ℤ → Type 0
  IsWithin posting = posting.0 < length usage

  abbrev portions : List (ℕ × ℤ) → List Portion
  portions statement = portions_of table registered usage title_of account statement

  -- the postings, where the first one is of this line
  abbrev with_first : ℕ × ℤ → List (ℕ × ℤ) → Option UsageLine → List (ℕ × ℤ)
  with_first posting statement line = map posting_of (cons_option (option_map (portion_by table registered title_of account posting) line) (portions statement))

  same_number : (n : ℕ) → n + 1 - 1 ≡ n
  same_number n = omega arith

  postings_again : (statement : List (ℕ × ℤ)) → All IsWithin statement → map posting_of (portions statement) ≡ statement
  postings_again [] within = refl
  postings_again (posting ∷ statement) within =
      by (slice_get_cases usage posting.0).1 (All-head IsWithin posting statement within) (postings_again statement (All-tail IsWithin posting statement within))
    where
      by : ((line : UsageLine) × (posting.0 < length usage) × (slice_get usage posting.0 ≡ Some line) × (get_or usage posting.0 line ≡ line))
          ⊎ ((length usage ≤ posting.0) × (slice_get usage posting.0 ≡ None))
          → posting.0 < length usage → map posting_of (portions statement) ≡ statement → with_first posting statement (slice_get usage posting.0) ≡ posting ∷ statement
      by (inl (line, below, is, at)) within rest = ap (with_first posting statement) is ∙ (λ i. (same_number posting.0 i, posting.1) ∷ rest i)
      by (inr (past, is)) within rest = absurd (omega (arith, past, within))

  pub each_posting_once : (statement : List (ℕ × ℤ)) (listed : List Portion) → All (λ posting. posting.0 < length usage) statement
      → AreListed (portions_of table registered usage title_of account statement) listed
      → IsPermutation statement (map (λ portion. (portion.row - 1, portion.amount)) listed)
  each_posting_once statement listed within are =
      subst (λ (postings : List (ℕ × ℤ)). IsPermutation postings (map posting_of listed)) (postings_again statement within) (IsPermutation-map posting_of (portions statement) listed are.same)

  pub statement_total : (statement : List (ℕ × ℤ)) (listed : List Portion) → All (λ posting. posting.0 < length usage) statement
      → AreListed (portions_of table registered usage title_of account statement) listed
      → sum_of listed ≡ total_of statement
  statement_total statement listed within are =
      sym (int_sum_by-map posting_of (λ (posting : ℕ × ℤ). posting.1) listed)
      ∙ int_sum_by-IsPermutation (λ (posting : ℕ × ℤ). posting.1) statement (map posting_of listed) (each_posting_once statement listed within are)
