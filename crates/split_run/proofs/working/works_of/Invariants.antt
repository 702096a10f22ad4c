use Rattle.std.proofs.Common.{◌≡◌, ◌<◌, ◌≤◌, ◌-◌, ℕ, None, Some, length, slice_get, slice_index_or}
use Rattle.line_split.specs.UsageLine.{UsageLine}
use Rattle.cwr_share.specs.Found.{IsLookUp}
use Rattle.split_run.proofs.working.works_of.Given as goal

-- the works so far are those of the lines
abbrev pub invariant-loop-place : goal.invariant-loop-place
invariant-loop-place l = record {
  enough : length l.works ≡ 64;
  works : (place : ℕ) (line : UsageLine) → l.from ≤ place → place < l.place → slice_get l.usage place ≡ Some line → IsLookUp l.registry line.work (slice_index_or l.works (place - l.from) None);
}
