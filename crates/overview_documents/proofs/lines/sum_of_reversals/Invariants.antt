use Rattle.std.proofs.Common.{◌≡◌, ◌≤◌, ◌*◌, length, take, unsigned_abs}
use Rattle.line_split.specs.Signs.{int_sum_by}
use Rattle.line_split.specs.declared.TheConstants.{MOST_AMOUNT}
use Rattle.overview_documents.specs.Lines.{reversals_of}
use Rattle.overview_documents.proofs.lines.sum_of_reversals.Given as goal

-- the count and the sum so far, each term of which is small
abbrev pub invariant-loop-place : goal.invariant-loop-place
invariant-loop-place l = record {
  count : l.lines ≡ length (reversals_of (take l.place l.usage));
  few : l.lines ≤ l.place;
  sum : l.amount ≡ int_sum_by (λ line. line.amount) (reversals_of (take l.place l.usage));
  small : unsigned_abs l.amount ≤ l.place * MOST_AMOUNT;
}
