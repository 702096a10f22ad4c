-- What stays open of a line.
use Rattle.std.proofs.Common.{◌≡◌, ◌∙◌, ◌+◌, ◌<◌, ◌≤◌, ◌+ℤ◌, ℕ, ℤ, pos, Bool, true, false, List, None, Option, Some, IfSome, arith, cond, filter, get_or, length, refl, take, unsigned_abs}
use Rattle.std.specs.Prelude.{◌&&◌, nat_lt}
use Rattle.std.proofs.lemmas.Int.{ints}
use Rattle.cwr_share.specs.Registered.{Registered}
use Rattle.line_split.specs.Signs.{int_sum_by}
use Rattle.line_split.specs.UsageLine.{UsageLine}
use Rattle.line_split.specs.declared.TheConstants.{MOST_AMOUNT}
use Rattle.line_split.specs.declared.reason.Reason.TheVariants.{Open}
use Rattle.usage_totals.specs.SoFar.{picked}
use Rattle.usage_totals.specs.Totals.{is_same, reason_of, residue_of, stays_open}
use Rattle.usage_totals.proofs.TotalLemmas.{sum_more, sum_same}

-- an amount that is not 0
abbrev pub unless_none : ℤ → Option ℤ
unless_none amount = cond (nat_lt 0 (unsigned_abs amount)) (Some amount) None

pub small_unless_none : (amount : ℤ) → unsigned_abs amount ≤ MOST_AMOUNT → IfSome (unless_none amount) (λ (a : ℤ). unsigned_abs a ≤ MOST_AMOUNT)
small_unless_none amount small = by (nat_lt 0 (unsigned_abs amount))
  where
    by : (b : Bool) → IfSome (cond b (Some amount) None) (λ (a : ℤ). unsigned_abs a ≤ MOST_AMOUNT)
    by true = small
    by false = tt

module _ (table : List (ℕ × List ℕ)) (registered : Registered) (line : UsageLine) where
  -- the residue's portion of a line that is divided
  abbrev pub left_if : Bool → ℤ
  left_if b = cond b (residue_of table registered line) (pos 0)

  abbrev pub is_divided : Bool
  is_divided = is_same Open (reason_of table registered line)

  pub left_picked : unless_none (left_if is_divided) ≡ picked (stays_open table registered) (residue_of table registered) line
  left_picked = by is_divided
    where
      by : (b : Bool) → unless_none (left_if b) ≡ cond (b && nat_lt 0 (unsigned_abs (residue_of table registered line))) (Some (residue_of table registered line)) None
      by true = λ i. unless_none (residue_of table registered line)
      by false = λ i. None

none_added : (a : ℤ) → a +ℤ pos 0 ≡ a
none_added a = omega (arith, ints)

module _ (table : List (ℕ × List ℕ)) (registered : Registered) (lines : List UsageLine) (place : ℕ) (line : UsageLine) (below : place < length lines) (at : get_or lines place line ≡ line) where
  abbrev pub divided : UsageLine → Bool
  divided = is_divided table registered

  -- what the residue's portions come to, with one line more
  pub left_more : (so_far : ℤ) → so_far ≡ int_sum_by (residue_of table registered) (filter divided (take place lines))
      → so_far +ℤ left_if table registered line (divided line) ≡ int_sum_by (residue_of table registered) (filter divided (take (place + 1) lines))
  left_more so_far is = by (divided line) refl
    where
      by : (b : Bool) → divided line ≡ b → so_far +ℤ left_if table registered line b ≡ int_sum_by (residue_of table registered) (filter divided (take (place + 1) lines))
      by true told = sum_more divided (residue_of table registered) lines place line below at so_far told is
      by false told = none_added so_far ∙ sum_same divided (residue_of table registered) lines place line below at so_far told is
