use Rattle.std.proofs.Common.{◌≤◌, ◌<◌, ◌-◌, ℕ, length, slice_index}
use Rattle.csv_table.specs.Forms.{IsPrintableByte}
use Rattle.csv_table.proofs.forms.are_blocks_printable.Given as goal

abbrev pub invariant-loop-at : goal.invariant-loop-at
invariant-loop-at l = (l.at ≤ length l.field) × ((k : ℕ) → k < l.at → IsPrintableByte (slice_index l.field k))

abbrev pub decreases-loop-at : goal.decreases-loop-at
decreases-loop-at l = length l.field - l.at
