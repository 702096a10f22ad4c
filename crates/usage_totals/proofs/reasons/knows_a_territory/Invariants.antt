use Rattle.std.proofs.Common.{◌≡◌, false, take}
use Rattle.std.specs.List.{list_any}
use Rattle.cwr_share.specs.ClaimsOn.{is_known}
use Rattle.usage_totals.proofs.reasons.knows_a_territory.Given as goal

-- none so far
abbrev pub invariant-loop-place : goal.invariant-loop-place
invariant-loop-place l = list_any (λ line. is_known l.tis line.territory) (take l.place l.usage) ≡ false
