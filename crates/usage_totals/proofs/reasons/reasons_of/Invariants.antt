use Rattle.std.proofs.Common.{◌≡◌, ◌≤◌, ◌+◌, ◌*◌, map, take, unsigned_abs}
use Rattle.line_split.specs.Signs.{int_sum_by}
use Rattle.line_split.specs.declared.TheConstants.{MOST_AMOUNT, MOST_CLAIMS}
use Rattle.line_split.specs.declared.reason.Reason.TheVariants.{Open}
use Rattle.usage_totals.specs.SoFar.{AreSmall, picked}
use Rattle.usage_totals.specs.Totals.{lines_for, reason_of, residue_of, stays_open}
use Rattle.usage_totals.proofs.reasons.reasons_of.Given as goal

-- what is found of the lines so far
abbrev pub invariant-loop-place : goal.invariant-loop-place
invariant-loop-place l = record {
  reasons : l.reasons.items ≡ map (reason_of l.tis l.registry) (take l.place l.usage);
  left_open : l.left_open.items ≡ map (picked (stays_open l.tis l.registry) (residue_of l.tis l.registry)) (take l.place l.usage);
  each_small : AreSmall l.left_open.items;
  residue : l.residue ≡ int_sum_by (residue_of l.tis l.registry) (lines_for l.tis l.registry Open (take l.place l.usage));
  small : unsigned_abs l.residue ≤ l.place * MOST_AMOUNT;
  claims_room : MOST_CLAIMS ≤ l.claims.room;
  portions_room : MOST_CLAIMS + 1 ≤ l.portions.room;
}
