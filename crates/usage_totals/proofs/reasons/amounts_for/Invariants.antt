use Rattle.std.proofs.Common.{◌≡◌, length, map, take}
use Rattle.line_split.specs.UsageLine.{UsageLine}
use Rattle.line_split.specs.declared.reason.Reason.{Reason}
use Rattle.usage_totals.specs.SoFar.{AreSmall, picked}
use Rattle.usage_totals.specs.Totals.{is_same}
use Rattle.usage_totals.proofs.reasons.amounts_for.Given as goal

-- the amounts of the lines so far
abbrev pub invariant-loop-place : goal.invariant-loop-place
invariant-loop-place l = record {
  so_far : (given : UsageLine → Reason) → l.reasons ≡ map given l.usage
      → l.amounts.items ≡ map (picked (λ line. is_same l.reason (given line)) (λ line. line.amount)) (take l.place l.usage);
  long : length l.amounts.items ≡ l.place;
  small : AreSmall l.amounts.items;
}
