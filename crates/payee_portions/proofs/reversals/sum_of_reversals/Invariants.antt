use Rattle.std.proofs.Common.{◌≡◌, ◌≤◌, ◌*◌, take, unsigned_abs}
use Rattle.line_split.specs.declared.TheConstants.{MOST_AMOUNT}
use Rattle.payee_portions.specs.Reversals.{reversals_of}
use Rattle.payee_portions.specs.Shown.{portions_shown}
use Rattle.payee_portions.specs.Sums.{sum_of}
use Rattle.payee_portions.proofs.reversals.sum_of_reversals.Given as goal

-- the sum so far, each term of which is small
abbrev pub invariant-loop-place : goal.invariant-loop-place
invariant-loop-place l = record {
  sum : l.sum ≡ sum_of (reversals_of (portions_shown (take l.place l.list)));
  small : unsigned_abs l.sum ≤ l.place * MOST_AMOUNT;
}
