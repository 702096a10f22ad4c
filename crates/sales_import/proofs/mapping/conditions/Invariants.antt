use Rattle.std.proofs.Common.{take}
use Rattle.std.specs.Prelude.{option_map}
use Rattle.sales_import.specs.Mapped.{AreConditions}
use Rattle.sales_import.proofs.mapping.conditions.Given as goal

-- the words so far
abbrev pub invariant-loop-each : goal.invariant-loop-each
invariant-loop-each l = AreConditions (option_map (λ row. row.now) l.header) (take l.each-index l.wanted) l.conditions.items
