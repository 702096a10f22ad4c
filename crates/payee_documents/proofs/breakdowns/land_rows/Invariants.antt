use Rattle.std.proofs.Common.{◌≡◌, ◌≤◌, ◌^◌, All, map, take, unsigned_abs}
use Rattle.line_split.specs.declared.TheConstants.{MOST_LINES}
use Rattle.page_parts.specs.Bars.{row_shown}
use Rattle.payee_documents.specs.Breakdowns.{land_row}
use Rattle.payee_portions.specs.Shown.{portions_shown}
use Rattle.payee_documents.proofs.breakdowns.land_rows.Given as goal

-- the territories so far have their rows
abbrev pub invariant-loop-place : goal.invariant-loop-place
invariant-loop-place l = record {
  rows : map row_shown l.rows.items ≡ map (land_row l.names (portions_shown l.portions)) (take l.place l.codes);
  small : All (λ row. unsigned_abs row.amount ≤ 2 ^ 64) l.rows.items;
  counts : All (λ row. row.count ≤ MOST_LINES) l.rows.items;
}
