use Rattle.std.proofs.Common.{ℕ, ◌<◌}
use Rattle.line_split.specs.ClaimFault.{StandsBefore}
use Rattle.line_split.proofs.pairs.first_twice.Given as goal

-- none of the places so far
abbrev pub invariant-loop-place : goal.invariant-loop-place
invariant-loop-place l = (i : ℕ) → i < l.place → ¬ StandsBefore l.list i
