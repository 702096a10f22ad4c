use Rattle.std.proofs.Common.{length}
use Rattle.cwr_share.specs.Lines.{lines_of}
use Rattle.cwr_share.proofs.PassedOverLemmas.{IsScanTo}
use Rattle.cwr_share.proofs.passed_over.unknown_territories.Given as goal

abbrev pub invariant-loop-line : goal.invariant-loop-line
invariant-loop-line l = IsScanTo l.table (lines_of l.bytes) l.lines l.scan

abbrev pub decreases-loop-line : goal.decreases-loop-line
decreases-loop-line l = length l.lines
