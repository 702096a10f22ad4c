use Rattle.std.proofs.Common.{◌≡◌, ℕ, ◌<◌, map}
use Rattle.std.specs.Prelude.{string_bytes}
use Rattle.pair_split.specs.Pair.{party_of, word_at}
use Rattle.pair_split.proofs.division.is_named_before.Given as goal

-- no word so far has the party
abbrev pub invariant-loop-earlier : goal.invariant-loop-earlier
invariant-loop-earlier l = (j : ℕ) → j < l.earlier
    → party_of (word_at (map string_bytes l.words) j) ≡ party_of (word_at (map string_bytes l.words) l.place) → ⊥
