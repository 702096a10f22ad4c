use Rattle.std.proofs.Common.{ℕ, ◌<◌, [], slice_index_or}
use Rattle.std.specs.Prelude.{Any}
use Rattle.export_rows.specs.Places.{IsLineBreak}
use Rattle.export_rows.proofs.row.Row.has_line_break.Given as goal

-- the fields before have none
abbrev pub invariant-loop-place : goal.invariant-loop-place
invariant-loop-place l = (before : ℕ) → before < l.place → ¬ Any IsLineBreak (slice_index_or l.self before [])
