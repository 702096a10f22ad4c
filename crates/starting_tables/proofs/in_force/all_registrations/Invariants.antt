use Rattle.std.proofs.Common.{◌≡◌, ◌++◌, length}
use Rattle.cwr_share.specs.Lines.{lines_of}
use Rattle.starting_tables.specs.InForce.{registrations_filed}
use Rattle.starting_tables.proofs.in_force.all_registrations.Given as goal

abbrev pub invariant-loop-line : goal.invariant-loop-line
invariant-loop-line l = l.filed.items ++ registrations_filed l.lines ≡ registrations_filed (lines_of l.file)

abbrev pub decreases-loop-line : goal.decreases-loop-line
decreases-loop-line l = length l.lines
