use Rattle.std.proofs.Common.{ℕ, ◌<◌, get_or}
use Rattle.decimal_amounts.specs.Decimals.{IsInGroups}
use Rattle.decimal_amounts.proofs.digits.are_grouped.Given as goal

-- each byte before this place stands where it may
abbrev pub invariant-loop-place : goal.invariant-loop-place
invariant-loop-place l = (k : ℕ) → k < l.place → IsInGroups l.group l.count k (get_or l.text k 0)
