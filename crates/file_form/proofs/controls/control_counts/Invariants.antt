use Rattle.std.proofs.Common.{length}
use Rattle.cwr_share.specs.Lines.{lines_of}
use Rattle.file_form.proofs.ControlLemmas.{IsScanTo}
use Rattle.file_form.proofs.controls.control_counts.Given as goal

abbrev pub invariant-loop-line : goal.invariant-loop-line
invariant-loop-line l = IsScanTo (lines_of l.bytes) l.lines l.scan

abbrev pub decreases-loop-line : goal.decreases-loop-line
decreases-loop-line l = length l.lines
