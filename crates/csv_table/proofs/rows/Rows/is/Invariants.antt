use Rattle.std.proofs.Common.{◌≡◌, [], ℕ, map, slice_index_or, ◌<◌}
use Rattle.csv_table.proofs.rows.Rows.is.Given as goal

abbrev pub invariant-loop-place : goal.invariant-loop-place
invariant-loop-place l = (k : ℕ) → k < l.place → slice_index_or l.self.row k [] ≡ slice_index_or (map (λ field. field.now) l.fields) k []
