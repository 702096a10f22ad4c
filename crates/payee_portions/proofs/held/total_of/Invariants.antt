use Rattle.std.proofs.Common.{◌≡◌, ◌≤◌, ◌*◌, take}
use Rattle.line_split.specs.Claims.{total_of}
use Rattle.line_split.specs.declared.TheConstants.{MOST_CLAIMED}
use Rattle.payee_portions.proofs.held.total_of.Given as goal

-- the sum so far, each term of which is small
abbrev pub invariant-loop-place : goal.invariant-loop-place
invariant-loop-place l = record {
  sum : l.total ≡ total_of (take l.place l.list);
  small : l.total ≤ l.place * MOST_CLAIMED;
}
