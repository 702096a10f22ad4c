use Rattle.std.proofs.Common.{◌≡◌, sum_by, take}
use Rattle.line_split.proofs.portions.total.Given as goal

-- what the claims so far come to
abbrev pub invariant-loop-claim : goal.invariant-loop-claim
invariant-loop-claim l = l.total ≡ sum_by (λ claim. claim.1) (take l.claim-index l.claims)
