use Rattle.std.proofs.Common.{◌-◌, ◌≤◌, length}
use Rattle.explain_line.proofs.submitted_files.none_for.Given as goal

abbrev pub invariant-loop-filed : goal.invariant-loop-filed
invariant-loop-filed l = length l.filed.items ≤ l.count

abbrev pub decreases-loop-filed : goal.decreases-loop-filed
decreases-loop-filed l = l.count - length l.filed.items
