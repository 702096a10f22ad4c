use Rattle.std.proofs.Common.{◌≡◌, ◌++◌, ◌∷◌, flat_map, take}
use Rattle.sales_lines.specs.Sources.{text_from}
use Rattle.sales_lines.proofs.settings.Settings.join_usage.Given as goal

-- what the sources so far give, behind that of the first
abbrev pub invariant-loop-other : goal.invariant-loop-other
invariant-loop-other l =
    l.usage.items ≡ l.initial.usage.items ++ flat_map (λ other. 45 ∷ text_from other l.row) (take l.other-index l.others)
