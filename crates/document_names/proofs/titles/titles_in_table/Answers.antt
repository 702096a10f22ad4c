use Rattle.std.proofs.Common.{[], ℕ, List, drop}
use Rattle.std.specs.Prelude.{slice_index_or}
use Rattle.csv_table.specs.Table.{rows_of}
use Rattle.cwr_share.specs.Fields.{trimmed}
use Rattle.linked_works.specs.WorksTable.{work_field}
use Rattle.document_names.proofs.FirstLemmas.{one_noted}
use Rattle.document_names.proofs.titles.titles_in_table.Goals as goal

pub loop-rows-preserved : goal.loop-rows-preserved
loop-rows-preserved c =
    let note : List (List ℕ) → List ℕ × List ℕ = λ row. (work_field row, trimmed (slice_index_or row 3 [])) in
    one_noted note (drop 1 (rows_of c.args.table.now)) c.loop-rows.rows.left c.next-in-loop-rows.new.self.left c.next-in-loop-rows.new.self.row
    c.loop-rows.titles c.note.new.self c.loop-rows.invariant (c.in_ok-next-2.ensures.found c.if-branch.true)
    (λ noted are. rw (c.field.ensures, c.trimmed.ensures, c.field-in-loop-rows.ensures) at c.in_ok-note.ensures noted are)
