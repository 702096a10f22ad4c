use Rattle.std.proofs.Common.{◌≡◌, ◌≤◌, ◌+◌, ◌*◌, drop}
use Rattle.cwr_share.specs.ClaimsOn.{claimed_in}
use Rattle.cwr_share.proofs.deciding.claimed_in.Given as goal

-- what the share lines so far come to, and what is left
abbrev pub invariant-loop-place : goal.invariant-loop-place
invariant-loop-place l = record {
  sum : l.claim + claimed_in l.tis l.land l.right (drop l.place l.shares) ≡ claimed_in l.tis l.land l.right l.shares;
  small : l.claim ≤ 65535 * l.place;
}
