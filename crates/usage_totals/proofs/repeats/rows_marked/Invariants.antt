use Rattle.std.proofs.Common.{take}
use Rattle.cwr_share.specs.PassedOver.{IsTallyOf}
use Rattle.usage_totals.specs.RepeatsSoFar.{rows_marked}
use Rattle.usage_totals.proofs.repeats.rows_marked.Given as goal

-- the rows so far
abbrev pub invariant-loop-place : goal.invariant-loop-place
invariant-loop-place l = IsTallyOf (rows_marked (take l.place l.marks)) l.tally
