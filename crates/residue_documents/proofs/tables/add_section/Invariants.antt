use Rattle.std.proofs.Common.{◌≡◌, ◌++◌, flat_map, take}
use Rattle.payee_portions.specs.Shown.{portions_shown}
use Rattle.residue_documents.specs.Tables.{line_text}
use Rattle.residue_documents.proofs.tables.add_section.Given as goal

-- the lines so far are added
abbrev pub invariant-loop-place : goal.invariant-loop-place
invariant-loop-place l =
    l.page.items ≡ l.initial.page.items ++ flat_map (line_text l.names l.decimals l.reason) (portions_shown (take l.place l.section.portions.now))
