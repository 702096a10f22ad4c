use Rattle.std.proofs.Common.{◌≡◌, [], drop, length}
use Rattle.csv_table.specs.RowTable.{LeavesOut, Reads, Stops}
use Rattle.csv_table.specs.Table.{rows_of}
use Rattle.check_inputs.specs.Report.{row_line}
use Rattle.check_inputs.proofs.GoingOn.{Goes, of_header}
use Rattle.check_inputs.proofs.reading.read_past_faults.Given as goal

abbrev pub invariant-loop-reader : goal.invariant-loop-reader
invariant-loop-reader g l =
    let rules = g.T.RowTable.rules (g.T.RowTable.known l.fn.empty) in
    let line = row_line g.T.Worded.message g.T.Fault.FileFault.place_in g.T.Fault.FileFault.number_in l.path in
    Goes (Reads rules) (LeavesOut rules) (Stops rules) line [] (drop 1 (rows_of l.bytes)) (of_header l.initial.reader.is_headed ([], rules.headless))
    l.told.text.items l.told.count (g.T.RowTable.items l.reader.table) l.reader.number l.reader.left
    × (l.told.path.now ≡ l.path)
    × (g.T.RowTable.known l.reader.table ≡ g.T.RowTable.known l.fn.empty)

abbrev pub decreases-loop-reader : goal.decreases-loop-reader
decreases-loop-reader g l = length l.reader.left
