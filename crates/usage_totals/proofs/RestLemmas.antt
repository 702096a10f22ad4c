-- What of all lines is the residue's: its portions of those that are divided, and the others whole.
use Rattle.std.proofs.Common.{◌≡◌, ◌∙◌, ◌+◌, ◌+ℤ◌, ◌∷◌, [], ℕ, ℤ, pos, negsuc, Bool, true, false, List, Option, Some, None, ap, arith, cond, eq-eqb, filter, map, refl, sym, unwrap_or}
use Rattle.std.specs.List.{enumerate_from}
use Rattle.std.proofs.lemmas.Int.{ints}
use Rattle.std.proofs.lemmas.Bool.Decides.{nat_tests}
use Rattle.line_split.proofs.IntSums.{int_sum_by-cons, none_plus}
use Rattle.line_split.proofs.Signs.{portions_add_up, signed_portion_accounts}
use Rattle.line_split.specs.Signs.{int_sum_by, is_not_zero, signed_portions_of}
use Rattle.line_split.specs.UsageLine.{UsageLine}
use Rattle.line_split.specs.declared.TheConstants.{RESIDUE}
use Rattle.line_split.specs.declared.reason.Reason.{Reason}
use Rattle.line_split.specs.declared.reason.Reason.TheVariants.{Work, Land, Over, Open}
use Rattle.cwr_share.specs.ClaimsOn.{claims_on, reason_against}
use Rattle.cwr_share.specs.Registered.{Registered}
use Rattle.payee_book.specs.Run.{portion_for, statement_of}
use Rattle.payee_book.specs.Statement.{total_of}
use Rattle.usage_totals.specs.Totals.{is_same, reason_of, residue_of}
use Rattle.usage_totals.proofs.ReasonLemmas.{amount_of, counted, lines_of}

nothing_else : (p : ℤ) → is_not_zero p ≡ false → p ≡ pos 0
nothing_else (pos n) none = ap pos (grind (arith, nat_tests))
nothing_else (negsuc n) none = absurd (grind (arith, nat_tests))

-- what a statement comes to
module _ (portion : UsageLine → ℤ) where
  abbrev posted : ℕ → List UsageLine → List (ℕ × ℤ)
  posted n lines = filter (λ (posting : ℕ × ℤ). is_not_zero posting.1) (map (λ (e : ℕ × UsageLine). (e.0, portion e.1)) (enumerate_from n lines))

  posted_sum : (n : ℕ) (lines : List UsageLine) → total_of (posted n lines) ≡ int_sum_by portion lines
  posted_sum n [] = refl
  posted_sum n (line ∷ lines) = by (portion line) (is_not_zero (portion line)) refl (posted_sum (n + 1) lines) ∙ sym (int_sum_by-cons portion line lines)
    where
      by : (p : ℤ) (b : Bool) → is_not_zero p ≡ b → total_of (posted (n + 1) lines) ≡ int_sum_by portion lines → total_of (cond b ((n, p) ∷ posted (n + 1) lines) (posted (n + 1) lines)) ≡ p +ℤ int_sum_by portion lines
      by p true told rest = int_sum_by-cons (λ (posting : ℕ × ℤ). posting.1) (n, p) (posted (n + 1) lines) ∙ ap (λ (z : ℤ). p +ℤ z) rest
      by p false told rest = rest ∙ sym (none_plus (int_sum_by portion lines)) ∙ ap (λ (z : ℤ). z +ℤ int_sum_by portion lines) (sym (nothing_else p told))

pub statement_sum : (division : UsageLine → List (ℕ × ℤ)) (account : ℕ) (lines : List UsageLine) → total_of (statement_of division lines account) ≡ int_sum_by (λ line. portion_for account (division line)) lines
statement_sum division account lines = posted_sum (λ (line : UsageLine). portion_for account (division line)) 0 lines

-- where nobody claims anything, all is the residue's
alone : (list : List (ℕ × ℤ)) → map {A = ℕ × ℤ} (λ portion. portion.0) list ≡ 0 ∷ [] → portion_for 0 list ≡ int_sum_by (λ (portion : ℕ × ℤ). portion.1) list
alone [] is = absurd (cc)
alone (portion ∷ []) is =
    let zero_is : portion.0 ≡ 0 = cc in
    ap (λ (b : Bool). int_sum_by (λ (p : ℕ × ℤ). p.1) (cond b (portion ∷ []) [])) (eq-eqb portion.0 0 zero_is)
alone (portion ∷ next ∷ list) is = absurd (cc)

unclaimed : (amount : ℤ) → portion_for RESIDUE (signed_portions_of amount []) ≡ amount
unclaimed amount = alone (signed_portions_of amount []) (signed_portion_accounts amount []) ∙ portions_add_up amount []

module _ (table : List (ℕ × List ℕ)) (registered : Registered) where
  no_claims : (line : UsageLine) (reason : Reason) → reason_against table registered line ≡ Some reason → claims_on table registered line ≡ []
  no_claims line reason told = rw told refl

  -- a line that is not divided is the residue's
  pub whole_residue : (line : UsageLine) → is_same Open (reason_of table registered line) ≡ false → residue_of table registered line ≡ line.amount
  whole_residue line apart = by (reason_against table registered line) refl
    where
      by : (o : Option Reason) → reason_against table registered line ≡ o → residue_of table registered line ≡ line.amount
      by None told = absurd (Bool-apart (sym (ap (λ (o : Option Reason). is_same Open (unwrap_or o Open)) told) ∙ apart))
        where
          Bool-apart : true ≡ false → ⊥
          Bool-apart e = cc
      by (Some reason) told = ap (λ (claims : List (ℕ × ℕ)). portion_for RESIDUE (signed_portions_of line.amount claims)) (no_claims line reason told) ∙ unclaimed line.amount

  abbrev given : UsageLine → Reason
  given line = reason_of table registered line

  abbrev residue : List UsageLine → ℤ
  residue lines = int_sum_by (residue_of table registered) lines

  pub rest_summed : (lines : List UsageLine) → residue (lines_of given Open lines) +ℤ int_sum_by amount_of (lines_of given Work lines) +ℤ int_sum_by amount_of (lines_of given Land lines) +ℤ int_sum_by amount_of (lines_of given Over lines) ≡ residue lines
  rest_summed [] = refl
  rest_summed (line ∷ lines) = by (given line) refl (rest_summed lines)
    where
      by : (r : Reason) → given line ≡ r
          → residue (lines_of given Open lines) +ℤ int_sum_by amount_of (lines_of given Work lines) +ℤ int_sum_by amount_of (lines_of given Land lines) +ℤ int_sum_by amount_of (lines_of given Over lines) ≡ residue lines
          → residue (counted given Open r line lines) +ℤ int_sum_by amount_of (counted given Work r line lines) +ℤ int_sum_by amount_of (counted given Land r line lines) +ℤ int_sum_by amount_of (counted given Over r line lines) ≡ residue (line ∷ lines)
      by Work told rest = omega (arith, ints, rest, whole_residue line (ap (is_same Open) told), int_sum_by-cons amount_of line (lines_of given Work lines), int_sum_by-cons (residue_of table registered) line lines)
      by Land told rest = omega (arith, ints, rest, whole_residue line (ap (is_same Open) told), int_sum_by-cons amount_of line (lines_of given Land lines), int_sum_by-cons (residue_of table registered) line lines)
      by Over told rest = omega (arith, ints, rest, whole_residue line (ap (is_same Open) told), int_sum_by-cons amount_of line (lines_of given Over lines), int_sum_by-cons (residue_of table registered) line lines)
      by Open told rest = omega (arith, ints, rest, int_sum_by-cons (residue_of table registered) line (lines_of given Open lines), int_sum_by-cons (residue_of table registered) line lines)
