use Rattle.std.proofs.Common.{◌≡◌, ◌<◌, ◌-◌, true, map, slice_index_or, take}
use Rattle.usage_totals.specs.SoFar.{AreCounted, IsWithin, amount_at}
use Rattle.usage_totals.specs.declared.by_key.Hashed.{Hashed}
use Rattle.usage_totals.proofs.by_key.greatest_of.Given as goal

-- what is counted so far, and that the last line's key is at hand
abbrev pub invariant-loop-next : goal.invariant-loop-next
invariant-loop-next g l = record {
  counted : AreCounted g.K.PartialEq.eq g.K.Ord.cmp l.most (map (amount_at g.K.Key.key l.usage) (take l.next l.places)) l.at_hand l.ranked;
  last : (d : Hashed) → g.K.PartialEq.eq (amount_at g.K.Key.key l.usage (slice_index_or l.places (l.next - 1) d)).0 l.at_hand.0 ≡ true;
  within : IsWithin l.next l.at_hand.1;
  few : l.ranked.count < l.next;
}
