use Rattle.std.proofs.Common.{◌≡◌, ◌≤◌, ◌-◌, ◌++◌, All, drop, length, map}
use Rattle.payee_portions.specs.Money.{IsSection, section_shown}
use Rattle.payee_portions.specs.Sections.{sections_of}
use Rattle.payee_portions.specs.Shown.{portions_shown}
use Rattle.payee_portions.proofs.money.sections_in_turn.Given as goal

-- with the sections that are left, all are found
abbrev pub invariant-loop-from : goal.invariant-loop-from
invariant-loop-from l = record {
  left : map section_shown l.found.items ++ sections_of (portions_shown (drop l.from l.list)) ≡ sections_of (portions_shown l.list);
  sound : All IsSection l.found.items;
  within : l.from ≤ length l.list;
}

abbrev pub decreases-loop-from : goal.decreases-loop-from
decreases-loop-from l = length l.list - l.from
