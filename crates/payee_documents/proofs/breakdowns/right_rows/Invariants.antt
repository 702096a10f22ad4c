use Rattle.std.proofs.Common.{◌≡◌, ◌≤◌, ◌^◌, ◌∷◌, [], All, filter, map, nat_lt, take, unsigned_abs}
use Rattle.line_split.specs.declared.usage.Right.TheVariants.{M, P, S}
use Rattle.page_parts.specs.Bars.{row_shown}
use Rattle.payee_documents.specs.Breakdowns.{right_row}
use Rattle.payee_portions.specs.Shown.{portions_shown}
use Rattle.payee_documents.proofs.breakdowns.right_rows.Given as goal

-- the rights so far have their rows, if there are portions of them
abbrev pub invariant-loop-right : goal.invariant-loop-right
invariant-loop-right l = record {
  rows : map row_shown l.rows.items ≡ filter (λ row. nat_lt 0 row.count) (map (right_row (portions_shown l.portions)) (take l.right-index (P ∷ M ∷ S ∷ [])));
  small : All (λ row. unsigned_abs row.amount ≤ 2 ^ 64) l.rows.items;
}
