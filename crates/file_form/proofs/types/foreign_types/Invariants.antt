use Rattle.std.proofs.Common.{length}
use Rattle.cwr_share.specs.Lines.{lines_of}
use Rattle.file_form.proofs.TypeLemmas.{AreCountedTo}
use Rattle.file_form.proofs.types.foreign_types.Given as goal

abbrev pub invariant-loop-line : goal.invariant-loop-line
invariant-loop-line l = AreCountedTo (lines_of l.bytes) l.lines l.types.entries

abbrev pub decreases-loop-line : goal.decreases-loop-line
decreases-loop-line l = length l.lines
