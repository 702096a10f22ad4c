use Rattle.std.proofs.Common.{◌≡◌, [], slice_index_or, ℕ, ◌<◌}
use Rattle.export_rows.proofs.row.Row.is_blank.Given as goal

abbrev pub invariant-loop-place : goal.invariant-loop-place
invariant-loop-place l = (k : ℕ) → k < l.place → slice_index_or l.self k [] ≡ []
