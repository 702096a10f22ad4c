use Rattle.std.proofs.Common.{◌≡◌, ◌++◌, flat_map, map, take}
use Rattle.payee_portions.specs.Money.{section_shown}
use Rattle.residue_documents.specs.Tables.{section_text}
use Rattle.residue_documents.proofs.tables.add_table.Given as goal

-- the sections so far are added
abbrev pub invariant-loop-place : goal.invariant-loop-place
invariant-loop-place l =
    l.page.items ≡ l.initial.page.items ++ flat_map (section_text l.names l.decimals l.reason) (map section_shown (take l.place l.sections.items))
