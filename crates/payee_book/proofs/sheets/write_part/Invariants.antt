use Rattle.std.proofs.Common.{◌≡◌, ◌≤◌, ◌+◌, ◌-◌, ◌++◌}
use Rattle.csv_table.specs.Written.{text_of}
use Rattle.payee_book.specs.Text.{payee_rows}
use Rattle.payee_book.specs.Waves.{between}
use Rattle.payee_book.proofs.sheets.write_part.Given as goal

-- the postings so far are written
abbrev pub invariant-loop-written : goal.invariant-loop-written
invariant-loop-written l = record {
  within : (l.first ≤ l.written) × (l.written ≤ l.first + (l.end - l.first));
  rows : l.rows.text ≡ l.fn.rows.text ++ text_of (between l.first l.written (payee_rows l.usage l.party l.statement));
}

abbrev pub decreases-loop-written : goal.decreases-loop-written
decreases-loop-written l = l.end - l.written
