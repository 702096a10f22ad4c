use Rattle.std.proofs.Common.{◌≡◌, map}
use Rattle.line_split.specs.declared.TheConstants.{MOST_CLAIMS}
use Rattle.settle_run.specs.Reasons.{AreFound}
use Rattle.settle_run.specs.Settled.{reason_of}
use Rattle.settle_run.proofs.reasons.find_from.Given as goal

-- what was found so far
abbrev pub invariant-loop-place : goal.invariant-loop-place
invariant-loop-place l = record {
  found : AreFound (map (reason_of l.tis l.registry) l.usage) l.residue l.from l.part;
  room : l.claims.room ≡ MOST_CLAIMS;
}
