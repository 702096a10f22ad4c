use Rattle.std.proofs.Common.{◌≡◌, ◌≤◌, ◌*◌, take, unsigned_abs}
use Rattle.line_split.specs.declared.TheConstants.{MOST_AMOUNT}
use Rattle.payee_book.specs.Statement.{total_of}
use Rattle.distribution_documents.proofs.overview.total.Given as goal

-- the sum so far, each term of which is small
abbrev pub invariant-loop-place : goal.invariant-loop-place
invariant-loop-place l = record {
  sum : l.total ≡ total_of (take l.place l.statement);
  small : unsigned_abs l.total ≤ l.place * MOST_AMOUNT;
}
