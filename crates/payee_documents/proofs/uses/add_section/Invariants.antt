use Rattle.std.proofs.Common.{◌≡◌, ◌++◌, flat_map, take}
use Rattle.payee_documents.specs.Uses.{use_text}
use Rattle.payee_portions.specs.Shown.{portions_shown}
use Rattle.payee_documents.proofs.uses.add_section.Given as goal

-- the portions so far are added
abbrev pub invariant-loop-place : goal.invariant-loop-place
invariant-loop-place l =
    l.page.items ≡ l.initial.page.items ++ flat_map (use_text l.names l.decimals) (portions_shown (take l.place l.section))
