use Rattle.std.proofs.Common.{◌≡◌, [], ℕ, List, length}
use Rattle.cwr_share.specs.CwrReading.{Reads, Refuses, Stands, Stops}
use Rattle.cwr_share.specs.Lines.{lines_of}
use Rattle.cwr_share.specs.Reading.{IsReadTo}
use Rattle.check_inputs.specs.Report.{cwr_line}
use Rattle.check_inputs.proofs.GoingOn.{Goes}
use Rattle.check_inputs.proofs.reading.read_lines.Given as goal

abbrev pub invariant-loop-reader : goal.invariant-loop-reader
invariant-loop-reader l =
    Stands l.reader
    × ((kept : List (List ℕ)) × IsReadTo kept l.reader.reading
    × Goes Reads Refuses Stops (cwr_line l.path) [] (lines_of l.bytes) [] l.told.text.items l.told.count kept l.reader.number l.reader.lines)
    × (l.told.path.now ≡ l.path)

abbrev pub decreases-loop-reader : goal.decreases-loop-reader
decreases-loop-reader l = length l.reader.lines
