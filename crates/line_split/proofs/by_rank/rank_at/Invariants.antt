use Rattle.std.proofs.Common.{◌≡◌, ◌≤◌}
use Rattle.line_split.specs.Claims.{participants_of}
use Rattle.line_split.specs.FairSplit.{value_at}
use Rattle.line_split.proofs.SumBelow.{sum_below, bit}
use Rattle.line_split.proofs.Ranks.{comes_before_by}
use Rattle.line_split.proofs.Quotas.{remainders}
use Rattle.line_split.proofs.by_rank.rank_at.Given as goal

-- how many of the places so far come before
abbrev pub invariant-loop-other : goal.invariant-loop-other
invariant-loop-other l = record {
  rank : l.rank ≡ sum_below l.other (λ j. bit (comes_before_by (remainders l.amount l.base (value_at (participants_of l.claims))) j l.place));
  few : l.rank ≤ l.other;
}
