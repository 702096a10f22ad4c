use Rattle.std.proofs.Common.{length}
use Rattle.cwr_share.specs.Lines.{lines_of}
use Rattle.cwr_share.proofs.FiledLemmas.{IsSoughtTo}
use Rattle.cwr_share.proofs.filed.last_opening.Given as goal

abbrev pub invariant-loop-line : goal.invariant-loop-line
invariant-loop-line l = IsSoughtTo (lines_of l.bytes) l.work l.lines l.number l.found

abbrev pub decreases-loop-line : goal.decreases-loop-line
decreases-loop-line l = length l.lines
