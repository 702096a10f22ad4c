use Rattle.std.proofs.Common.{◌≡◌, ◌≤◌, length, take}
use Rattle.payee_portions.specs.Shown.{portions_shown}
use Rattle.payee_portions.specs.Sums.{portions_for}
use Rattle.payee_portions.proofs.sums.count_for.Given as goal

-- the count so far
abbrev pub invariant-loop-place : goal.invariant-loop-place
invariant-loop-place l = record {
  count : l.count ≡ length (portions_for l.right (portions_shown (take l.place l.list)));
  small : l.count ≤ l.place;
}
