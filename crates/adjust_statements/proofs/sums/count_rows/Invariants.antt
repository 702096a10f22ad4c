use Rattle.std.proofs.Common.{◌+◌, List, ℕ}
use Rattle.merge_statements.specs.Statements.{Rest}
use Rattle.adjust_statements.specs.SoFar.{AreSmall, IsTextOf}
use Rattle.adjust_statements.proofs.RowLemmas.{Counts}
use Rattle.adjust_statements.proofs.sums.count_rows.Given as goal

-- so many rows were counted, and the others come next
abbrev pub invariant-loop-row : goal.invariant-loop-row
invariant-loop-row l = record {
  counted : (kind : List ℕ) (rows : List Rest) → IsTextOf kind rows l.text → Counts l.is_paid l.name kind rows l.text l.fn.sums l.rows.left l.sums l._row;
  small : (count : ℕ) → AreSmall count l.fn.sums → AreSmall (count + l._row) l.sums;
}
