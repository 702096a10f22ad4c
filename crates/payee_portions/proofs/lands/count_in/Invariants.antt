use Rattle.std.proofs.Common.{◌≡◌, ◌≤◌, length, take}
use Rattle.payee_portions.specs.Lands.{portions_in}
use Rattle.payee_portions.specs.Shown.{portions_shown}
use Rattle.payee_portions.proofs.lands.count_in.Given as goal

-- the count so far
abbrev pub invariant-loop-place : goal.invariant-loop-place
invariant-loop-place l = record {
  count : l.count ≡ length (portions_in l.code (portions_shown (take l.place l.list)));
  small : l.count ≤ l.place;
}
