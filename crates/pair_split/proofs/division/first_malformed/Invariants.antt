use Rattle.std.proofs.Common.{ℕ, ◌<◌, map}
use Rattle.std.specs.Prelude.{string_bytes}
use Rattle.pair_split.specs.Pair.{IsPair, word_at}
use Rattle.pair_split.proofs.division.first_malformed.Given as goal

-- the words so far are pairs
abbrev pub invariant-loop-place : goal.invariant-loop-place
invariant-loop-place l = (i : ℕ) → i < l.place → IsPair (word_at (map string_bytes l.words) i)
