use Rattle.std.proofs.Common.{◌≡◌, map, take}
use Rattle.std.specs.Prelude.{string_bytes}
use Rattle.pair_split.specs.Pair.{claims_of}
use Rattle.pair_split.proofs.division.list_claims.Given as goal

-- the claims of the words so far
abbrev pub invariant-loop-place : goal.invariant-loop-place
invariant-loop-place l = l.list.items ≡ claims_of (take l.place (map string_bytes l.words))
