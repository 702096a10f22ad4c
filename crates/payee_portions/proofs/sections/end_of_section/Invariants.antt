use Rattle.std.proofs.Common.{◌≡◌, ◌≤◌, ◌<◌, ◌+◌, ◌-◌, drop, length}
use Rattle.std.specs.List.{take_while}
use Rattle.payee_portions.specs.Sections.{is_of, section_length}
use Rattle.payee_portions.specs.Shown.{portions_shown}
use Rattle.payee_portions.proofs.sections.end_of_section.Given as goal

-- what is left of the section begins here
abbrev pub invariant-loop-end : goal.invariant-loop-end
invariant-loop-end l = record {
  left :
      l.from + section_length (portions_shown (drop l.from l.list))
      ≡ l.end + length (take_while (is_of l.work) (portions_shown (drop l.end l.list)));
  some : l.from < l.end;
  within : l.end ≤ length l.list;
}

abbrev pub decreases-loop-end : goal.decreases-loop-end
decreases-loop-end l = length l.list - l.end
