use Rattle.std.proofs.Common.{◌≡◌, ◌<◌, ℕ, reverse, slice_index}
use Rattle.cwr_share.proofs.share_line.without_spaces_after.Given as goal

abbrev pub invariant-loop-count : goal.invariant-loop-count
invariant-loop-count l = (k : ℕ) → k < l.count → slice_index (reverse l.text) k ≡ 32
