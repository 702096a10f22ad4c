use Rattle.std.proofs.Common.{ℕ, ◌<◌, map}
use Rattle.std.specs.Prelude.{string_bytes}
use Rattle.royalty_program.specs.MergeCommand.{IsNamedBefore}
use Rattle.royalty_program.proofs.merge_command.first_named_before.Given as goal

-- no path so far stands before it too
abbrev pub invariant-loop-place : goal.invariant-loop-place
invariant-loop-place l = (i : ℕ) → i < l.place → ¬ IsNamedBefore (map string_bytes l.paths) i
