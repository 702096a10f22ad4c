use Rattle.std.proofs.Common.{map, take}
use Rattle.settle_run.specs.Settled.{reason_of}
use Rattle.settle_run.proofs.SettleLemmas.{AreReasons}
use Rattle.settle_run.proofs.reasons.reasons_of.Given as goal

-- the reasons of the postings so far
abbrev pub invariant-loop-place : goal.invariant-loop-place
invariant-loop-place g l = AreReasons (map (reason_of l.tis l.registry) l.usage) (take l.place l.residue) l.reasons.items
