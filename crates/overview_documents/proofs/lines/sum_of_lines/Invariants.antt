use Rattle.std.proofs.Common.{◌≡◌, ◌≤◌, ◌*◌, take, unsigned_abs}
use Rattle.line_split.specs.Signs.{int_sum_by}
use Rattle.line_split.specs.declared.TheConstants.{MOST_AMOUNT}
use Rattle.overview_documents.proofs.lines.sum_of_lines.Given as goal

-- the sum so far, each term of which is small
abbrev pub invariant-loop-place : goal.invariant-loop-place
invariant-loop-place l = record {
  sum : l.amount ≡ int_sum_by (λ line. line.amount) (take l.place l.usage);
  small : unsigned_abs l.amount ≤ l.place * MOST_AMOUNT;
}
