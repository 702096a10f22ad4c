-- The steps so far are done, each where it was due.
use Rattle.std.proofs.Common.{◌≡◌, map, take}
use Rattle.queue_core.specs.PoolSteps.{Follows, in_first}
use Rattle.queue_core.proofs.linked.Core.replay.Given as goal

abbrev pub invariant-loop-step : goal.invariant-loop-step
invariant-loop-step l = (l.done ≡ l.step-index) × Follows (map in_first (take l.done l.steps)) l.initial.self l.self
