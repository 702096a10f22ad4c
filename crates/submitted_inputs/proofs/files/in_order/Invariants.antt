use Rattle.std.proofs.Common.{◌≡◌, map}
use Rattle.submitted_inputs.specs.Outcomes.{read_as}
use Rattle.submitted_inputs.proofs.files.in_order.Given as goal

abbrev pub invariant-loop-outcome : goal.invariant-loop-outcome
invariant-loop-outcome l = l.yielded ≡ map read_as l.read.items
