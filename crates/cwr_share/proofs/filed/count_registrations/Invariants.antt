use Rattle.std.proofs.Common.{◌≡◌, ◌+◌, count_by, length}
use Rattle.cwr_share.specs.Lines.{lines_of}
use Rattle.cwr_share.specs.Records.{opens_registration}
use Rattle.cwr_share.proofs.filed.count_registrations.Given as goal

abbrev pub invariant-loop-line : goal.invariant-loop-line
invariant-loop-line l = l.count + count_by opens_registration l.lines ≡ count_by opens_registration (lines_of l.bytes)

abbrev pub decreases-loop-line : goal.decreases-loop-line
decreases-loop-line l = length l.lines
