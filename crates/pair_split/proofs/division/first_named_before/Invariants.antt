use Rattle.std.proofs.Common.{ℕ, ◌<◌, map}
use Rattle.std.specs.Prelude.{string_bytes}
use Rattle.pair_split.specs.PairFault.{IsNamedBefore}
use Rattle.pair_split.proofs.division.first_named_before.Given as goal

-- no party so far was named before
abbrev pub invariant-loop-place : goal.invariant-loop-place
invariant-loop-place l = (i : ℕ) → i < l.place → ¬ IsNamedBefore (map string_bytes l.words) i
