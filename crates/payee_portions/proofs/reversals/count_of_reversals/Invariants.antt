use Rattle.std.proofs.Common.{◌≡◌, ◌≤◌, length, take}
use Rattle.payee_portions.specs.Reversals.{reversals_of}
use Rattle.payee_portions.specs.Shown.{portions_shown}
use Rattle.payee_portions.proofs.reversals.count_of_reversals.Given as goal

-- the count so far
abbrev pub invariant-loop-place : goal.invariant-loop-place
invariant-loop-place l = record {
  count : l.count ≡ length (reversals_of (portions_shown (take l.place l.list)));
  small : l.count ≤ l.place;
}
