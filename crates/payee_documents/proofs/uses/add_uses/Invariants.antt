use Rattle.std.proofs.Common.{◌≡◌, ◌≤◌, ◌-◌, ◌++◌, drop, flat_map, length}
use Rattle.payee_documents.specs.Uses.{section_text}
use Rattle.payee_portions.specs.Sections.{sections_of}
use Rattle.payee_portions.specs.Shown.{portions_shown}
use Rattle.payee_documents.proofs.uses.add_uses.Given as goal

-- with the sections that are left, all are added
abbrev pub invariant-loop-from : goal.invariant-loop-from
invariant-loop-from l = record {
  left :
      l.page.items ++ flat_map (section_text l.names l.decimals) (sections_of (portions_shown (drop l.from l.portions)))
      ≡ l.initial.page.items ++ flat_map (section_text l.names l.decimals) (sections_of (portions_shown l.portions));
  within : l.from ≤ length l.portions;
}

abbrev pub decreases-loop-from : goal.decreases-loop-from
decreases-loop-from l = length l.portions - l.from
