use Rattle.std.proofs.Common.{◌≡◌, ◌<◌, ◌≤◌, ℕ, false, slice_index}
use Rattle.usage_totals.specs.Repeats.{is_same_line}
use Rattle.usage_totals.specs.RepeatsSoFar.{place_in}
use Rattle.usage_totals.specs.SoFar.{line_at}
use Rattle.usage_totals.proofs.repeats.has_same_before.Given as goal

-- none so far is the same
abbrev pub invariant-loop-before : goal.invariant-loop-before
invariant-loop-before l = record {
  low : l.before ≤ l.next;
  none : (k : ℕ) → l.before ≤ k → k < l.next → is_same_line (line_at l.usage (place_in (slice_index l.order l.next))) (line_at l.usage (place_in (slice_index l.order k))) ≡ false;
}

abbrev pub decreases-loop-before : goal.decreases-loop-before
decreases-loop-before l = l.before
