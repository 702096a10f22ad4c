use Rattle.std.proofs.Common.{◌≡◌, ◌+◌}
use Rattle.line_split.specs.Claims.{participants_of}
use Rattle.line_split.specs.FairSplit.{value_at}
use Rattle.line_split.specs.LargestRemainder.{quota_of}
use Rattle.line_split.proofs.SumBelow.{sum_below}
use Rattle.line_split.proofs.by_rank.left.Given as goal

-- what the quotas so far leave
abbrev pub invariant-loop-place : goal.invariant-loop-place
invariant-loop-place l =
    l.left + sum_below l.place (λ j. quota_of l.amount l.base (value_at (participants_of l.claims) j)) ≡ l.amount
