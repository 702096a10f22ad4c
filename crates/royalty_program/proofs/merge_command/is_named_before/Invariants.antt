use Rattle.std.proofs.Common.{◌≡◌, ℕ, ◌<◌, map}
use Rattle.std.specs.Prelude.{string_bytes}
use Rattle.pair_split.specs.Pair.{word_at}
use Rattle.royalty_program.proofs.merge_command.is_named_before.Given as goal

-- no path so far is that of the place
abbrev pub invariant-loop-earlier : goal.invariant-loop-earlier
invariant-loop-earlier l = (j : ℕ) → j < l.earlier → word_at (map string_bytes l.paths) j ≡ word_at (map string_bytes l.paths) l.place → ⊥
