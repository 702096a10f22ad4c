use Rattle.std.proofs.Common.{◌-◌, ◌≤◌, length}
use Rattle.submitted_inputs.proofs.files.none_yet.Given as goal

abbrev pub invariant-loop-outcomes : goal.invariant-loop-outcomes
invariant-loop-outcomes l = length l.outcomes.items ≤ l.count

abbrev pub decreases-loop-outcomes : goal.decreases-loop-outcomes
decreases-loop-outcomes l = l.count - length l.outcomes.items
