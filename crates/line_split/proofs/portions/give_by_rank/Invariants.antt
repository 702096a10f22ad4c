use Rattle.std.proofs.Common.{◌≡◌, ◌<◌, ◌≤◌, ℕ, ℤ, map, get_or, ltb}
use Rattle.line_split.specs.LargestRemainder.{rank_of}
use Rattle.line_split.specs.Contenders.{place_and_remainder, with_unit}
use Rattle.line_split.proofs.portions.give_by_rank.Given as goal

-- the places so far have what is theirs, and the rest are as they were
abbrev pub invariant-loop-place : goal.invariant-loop-place
invariant-loop-place l = record {
  given : (k : ℕ) (d : ℕ × ℕ) (e : ℕ × ℤ) → k < l.place
      → get_or l.list k e ≡ with_unit l.amount (ltb (rank_of (map place_and_remainder l.contenders) (get_or (map place_and_remainder l.contenders) k d)) l.left) (get_or l.fn.list k e);
  rest : (k : ℕ) (e : ℕ × ℤ) → l.place ≤ k → get_or l.list k e ≡ get_or l.fn.list k e;
}
