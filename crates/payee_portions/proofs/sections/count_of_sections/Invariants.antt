use Rattle.std.proofs.Common.{◌≡◌, ◌≤◌, ◌+◌, ◌-◌, drop, length}
use Rattle.payee_portions.specs.Sections.{sections_of}
use Rattle.payee_portions.specs.Shown.{portions_shown}
use Rattle.payee_portions.proofs.sections.count_of_sections.Given as goal

-- with the sections that are left, all are counted
abbrev pub invariant-loop-from : goal.invariant-loop-from
invariant-loop-from l = record {
  left : l.count + length (sections_of (portions_shown (drop l.from l.list))) ≡ length (sections_of (portions_shown l.list));
  few : l.count ≤ l.from;
  within : l.from ≤ length l.list;
}

abbrev pub decreases-loop-from : goal.decreases-loop-from
decreases-loop-from l = length l.list - l.from
