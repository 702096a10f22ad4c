use Rattle.std.proofs.Common.{ℕ, ◌<◌}
use Rattle.line_split.specs.ClaimFault.{IsOver}
use Rattle.line_split.proofs.pairs.first_over.Given as goal

-- none of the places so far
abbrev pub invariant-loop-place : goal.invariant-loop-place
invariant-loop-place l = (i : ℕ) → i < l.place → ¬ IsOver l.list i
