use Rattle.std.proofs.Common.{◌≡◌, ◌+◌, ◌-◌, ◌+ℤ◌, length}
use Rattle.page_parts.proofs.RowSums.{amounts_from, counts_from}
use Rattle.page_parts.proofs.shortened.sum_from.Given as goal

-- with the rows that are left, they come to all
abbrev pub invariant-loop-place : goal.invariant-loop-place
invariant-loop-place l = record {
  rows : l.others.rows ≡ length l.rows - l.from;
  count : l.others.count + counts_from l.rows l.place ≡ counts_from l.rows l.from;
  amount : l.others.amount +ℤ amounts_from l.rows l.place ≡ amounts_from l.rows l.from;
}
