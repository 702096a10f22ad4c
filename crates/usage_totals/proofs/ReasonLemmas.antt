-- The lines of four reasons are all lines.
use Rattle.std.proofs.Common.{◌≡◌, ◌+◌, ◌+ℤ◌, ◌∷◌, [], ℤ, List, arith, cond, filter, length, refl}
use Rattle.std.proofs.lemmas.Int.{ints}
use Rattle.line_split.proofs.IntSums.{int_sum_by-cons}
use Rattle.line_split.specs.Signs.{int_sum_by}
use Rattle.line_split.specs.UsageLine.{UsageLine}
use Rattle.line_split.specs.declared.reason.Reason.{Reason}
use Rattle.line_split.specs.declared.reason.Reason.TheVariants.{Work, Land, Over, Open}
use Rattle.usage_totals.specs.Totals.{is_same}

abbrev pub amount_of : UsageLine → ℤ
amount_of line = line.amount

module _ (given : UsageLine → Reason) where
  abbrev pub lines_of : Reason → List UsageLine → List UsageLine
  lines_of reason lines = filter (λ line. is_same reason (given line)) lines

  abbrev pub counted : Reason → Reason → UsageLine → List UsageLine → List UsageLine
  counted reason r line lines = cond (is_same reason r) (line ∷ lines_of reason lines) (lines_of reason lines)

  pub all_counted : (lines : List UsageLine) → length (lines_of Open lines) + length (lines_of Work lines) + length (lines_of Land lines) + length (lines_of Over lines) ≡ length lines
  all_counted [] = refl
  all_counted (line ∷ lines) = by (given line) (all_counted lines)
    where
      by : (r : Reason) → length (lines_of Open lines) + length (lines_of Work lines) + length (lines_of Land lines) + length (lines_of Over lines) ≡ length lines
          → length (counted Open r line lines) + length (counted Work r line lines) + length (counted Land r line lines) + length (counted Over r line lines) ≡ length (line ∷ lines)
      by Work rest = omega (arith, rest)
      by Land rest = omega (arith, rest)
      by Over rest = omega (arith, rest)
      by Open rest = omega (arith, rest)

  abbrev pub sum_of : List UsageLine → ℤ
  sum_of lines = int_sum_by amount_of lines

  pub all_summed : (lines : List UsageLine) → sum_of (lines_of Open lines) +ℤ sum_of (lines_of Work lines) +ℤ sum_of (lines_of Land lines) +ℤ sum_of (lines_of Over lines) ≡ sum_of lines
  all_summed [] = refl
  all_summed (line ∷ lines) = by (given line) (all_summed lines)
    where
      by : (r : Reason) → sum_of (lines_of Open lines) +ℤ sum_of (lines_of Work lines) +ℤ sum_of (lines_of Land lines) +ℤ sum_of (lines_of Over lines) ≡ sum_of lines
          → sum_of (counted Open r line lines) +ℤ sum_of (counted Work r line lines) +ℤ sum_of (counted Land r line lines) +ℤ sum_of (counted Over r line lines) ≡ sum_of (line ∷ lines)
      by Work rest = omega (arith, ints, rest, int_sum_by-cons amount_of line (lines_of Work lines), int_sum_by-cons amount_of line lines)
      by Land rest = omega (arith, ints, rest, int_sum_by-cons amount_of line (lines_of Land lines), int_sum_by-cons amount_of line lines)
      by Over rest = omega (arith, ints, rest, int_sum_by-cons amount_of line (lines_of Over lines), int_sum_by-cons amount_of line lines)
      by Open rest = omega (arith, ints, rest, int_sum_by-cons amount_of line (lines_of Open lines), int_sum_by-cons amount_of line lines)
