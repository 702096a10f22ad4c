use Rattle.std.proofs.Common.{◌≡◌, filter, map, take}
use Rattle.line_split.specs.UsageLine.{UsageLine}
use Rattle.line_split.specs.declared.reason.Reason.{Reason}
use Rattle.usage_totals.specs.Totals.{is_same, total_of_lines}
use Rattle.usage_totals.specs.SoFar.{IsWithin}
use Rattle.usage_totals.proofs.reasons.total_for.Given as goal

-- the total of the lines so far
abbrev pub invariant-loop-place : goal.invariant-loop-place
invariant-loop-place l = record {
  so_far : (given : UsageLine → Reason) → l.reasons ≡ map given l.usage → l.total ≡ total_of_lines (filter (λ line. is_same l.reason (given line)) (take l.place l.usage));
  within : IsWithin l.place l.total;
}
