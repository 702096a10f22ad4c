use Rattle.std.proofs.Common.{◌≡◌, ◌&&◌, false, take}
use Rattle.std.specs.List.{list_any}
use Rattle.cwr_share.specs.ClaimsOn.{covers, is_alike}
use Rattle.cwr_share.proofs.deciding.is_overruled.Given as goal

-- none of the lines so far
abbrev pub invariant-loop-other : goal.invariant-loop-other
invariant-loop-other l = list_any (λ other. is_alike l.share other && covers l.tis l.land other) (take l.other-index l.later) ≡ false
