use Rattle.std.proofs.Common.{◌≡◌, drop, max}
use Rattle.page_parts.specs.Bars.{above, amounts_of, below, farthest, table_shown}
use Rattle.page_parts.proofs.Scales.{row_amounts}
use Rattle.page_parts.proofs.bars.scale_of.Given as goal

-- with the rows that are left, it has room for all
abbrev pub invariant-loop-place : goal.invariant-loop-place
invariant-loop-place l = record {
  below : max l.scale.below (farthest below (row_amounts (drop l.place l.table.rows.now))) ≡ farthest below (amounts_of (table_shown l.table));
  above : max l.scale.above (farthest above (row_amounts (drop l.place l.table.rows.now))) ≡ farthest above (amounts_of (table_shown l.table));
}
