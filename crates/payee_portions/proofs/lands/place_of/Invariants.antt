use Rattle.std.proofs.Common.{ℕ, ◌<◌, ◌≤◌, ◌-◌, length, slice_index}
use Rattle.payee_portions.proofs.lands.place_of.Given as goal

-- the codes so far are below
abbrev pub invariant-loop-place : goal.invariant-loop-place
invariant-loop-place l = record {
  within : l.place ≤ length l.codes;
  below : (k : ℕ) → k < l.place → slice_index l.codes k < l.code;
}

abbrev pub decreases-loop-place : goal.decreases-loop-place
decreases-loop-place l = length l.codes - l.place
