use Rattle.std.proofs.Common.{◌≡◌, ◌≤◌, map, take}
use Rattle.line_split.specs.LargestRemainder.{rank_of}
use Rattle.line_split.specs.Contenders.{place_and_remainder}
use Rattle.line_split.proofs.portions.rank.Given as goal

-- how many of the contenders so far come before
abbrev pub invariant-loop-other : goal.invariant-loop-other
invariant-loop-other l = record {
  rank : l.rank ≡ rank_of (map place_and_remainder (take l.other-index l.contenders)) (place_and_remainder l.contender);
  few : l.rank ≤ l.other-index;
}
