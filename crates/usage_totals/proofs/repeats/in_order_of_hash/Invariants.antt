use Rattle.std.proofs.Common.{◌≡◌, map}
use Rattle.std.specs.List.{range_with_len}
use Rattle.usage_totals.specs.RepeatsSoFar.{hashed_at}
use Rattle.usage_totals.proofs.repeats.in_order_of_hash.Given as goal

-- the places so far
abbrev pub invariant-loop-place : goal.invariant-loop-place
invariant-loop-place l = l.order.items ≡ map (hashed_at l.usage) (range_with_len 0 l.place)
