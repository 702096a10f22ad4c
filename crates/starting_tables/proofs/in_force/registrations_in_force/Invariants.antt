use Rattle.std.proofs.Common.{length}
use Rattle.starting_tables.proofs.InForceLemmas.{IsKeptTo}
use Rattle.starting_tables.proofs.in_force.registrations_in_force.Given as goal

abbrev pub invariant-loop-registration : goal.invariant-loop-registration
invariant-loop-registration l = IsKeptTo l.initial.filed.items l.filed.items l.kept.items l.seen.keys

abbrev pub decreases-loop-registration : goal.decreases-loop-registration
decreases-loop-registration l = length l.filed.items
