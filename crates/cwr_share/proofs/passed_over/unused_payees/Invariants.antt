use Rattle.std.proofs.Common.{take}
use Rattle.cwr_share.specs.PassedOver.{IsTallyOf, unused_rows}
use Rattle.cwr_share.proofs.passed_over.unused_payees.Given as goal

abbrev pub invariant-loop-place : goal.invariant-loop-place
invariant-loop-place l = IsTallyOf (unused_rows l.registry (take l.place l.payees)) l.tally
