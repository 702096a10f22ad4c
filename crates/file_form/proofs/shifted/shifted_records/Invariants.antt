use Rattle.std.proofs.Common.{length}
use Rattle.cwr_share.specs.Lines.{lines_of}
use Rattle.file_form.proofs.ShiftedLemmas.{IsTalliedTo}
use Rattle.file_form.proofs.shifted.shifted_records.Given as goal

abbrev pub invariant-loop-line : goal.invariant-loop-line
invariant-loop-line l = IsTalliedTo (lines_of l.bytes) l.lines l.number l.tally

abbrev pub decreases-loop-line : goal.decreases-loop-line
decreases-loop-line l = length l.lines
