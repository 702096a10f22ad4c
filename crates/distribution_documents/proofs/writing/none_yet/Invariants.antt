use Rattle.std.proofs.Common.{◌-◌, ◌≤◌, length}
use Rattle.distribution_documents.proofs.writing.none_yet.Given as goal

abbrev pub invariant-loop-slots : goal.invariant-loop-slots
invariant-loop-slots g l = length l.slots.items ≤ l.count

abbrev pub decreases-loop-slots : goal.decreases-loop-slots
decreases-loop-slots g l = l.count - length l.slots.items
