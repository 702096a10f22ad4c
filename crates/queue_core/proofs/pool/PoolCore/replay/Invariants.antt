-- The steps so far are done, each where it was due.
use Rattle.std.proofs.Common.{◌≡◌, take}
use Rattle.queue_core.specs.PoolSteps.{Follows}
use Rattle.queue_core.proofs.pool.PoolCore.replay.Given as goal

abbrev pub invariant-loop-step : goal.invariant-loop-step
invariant-loop-step l = (l.done ≡ l.step-index) × Follows (take l.done l.steps) l.initial.self l.self
