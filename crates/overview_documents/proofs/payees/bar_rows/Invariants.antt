use Rattle.std.proofs.Common.{◌≡◌, ◌≤◌, ◌^◌, All, map, take, unsigned_abs}
use Rattle.page_parts.specs.Bars.{row_shown}
use Rattle.overview_documents.specs.Payees.{bar_row, lines_shown}
use Rattle.overview_documents.proofs.payees.bar_rows.Given as goal

-- the rows so far
abbrev pub invariant-loop-place : goal.invariant-loop-place
invariant-loop-place l = record {
  rows : map row_shown l.rows.items ≡ map bar_row (lines_shown (take l.place l.payees));
  counts : All (λ row. row.count ≤ 2 ^ 32) l.rows.items;
  small : All (λ row. unsigned_abs row.amount ≤ 2 ^ 64) l.rows.items;
}
