use Rattle.std.proofs.Common.{◌≡◌, ◌+◌, length}
use Rattle.csv_table.specs.Table.{rows_of}
use Rattle.file_form.proofs.quotes.count_rows.Given as goal

abbrev pub invariant-loop-rows : goal.invariant-loop-rows
invariant-loop-rows l = l.count + length l.rows.left ≡ length (rows_of l.text)

abbrev pub decreases-loop-rows : goal.decreases-loop-rows
decreases-loop-rows l = length l.rows.left
