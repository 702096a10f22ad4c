use Rattle.std.proofs.Common.{[], length}
use Rattle.cwr_share.specs.CwrReading.{HasReadOn, Stands}
use Rattle.cwr_share.proofs.cwr_reader.CwrReader.next_fault.Given as goal

abbrev pub invariant-loop-line : goal.invariant-loop-line
invariant-loop-line l = Stands l.self × HasReadOn l.fn.self [] l.self

abbrev pub decreases-loop-line : goal.decreases-loop-line
decreases-loop-line l = length l.self.lines
