use Rattle.std.proofs.Common.{[], drop, length}
use Rattle.std.specs.Prelude.{slice_index_or}
use Rattle.csv_table.specs.Table.{rows_of}
use Rattle.cwr_share.specs.Fields.{trimmed}
use Rattle.linked_works.specs.SubmitterPayees.{payee_field}
use Rattle.document_names.proofs.FirstLemmas.{AreNotedTo}
use Rattle.document_names.proofs.payees.names_by_payee.Given as goal

-- of the rows so far
abbrev pub invariant-loop-rows : goal.invariant-loop-rows
invariant-loop-rows l = AreNotedTo (λ row. (payee_field row, trimmed (slice_index_or row 3 []))) (drop 1 (rows_of l.table)) l.rows.left l.names

abbrev pub decreases-loop-rows : goal.decreases-loop-rows
decreases-loop-rows l = length l.rows.left
