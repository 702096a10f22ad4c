use Rattle.std.proofs.Common.{take}
use Rattle.payee_portions.specs.Lands.{AreTerritories}
use Rattle.payee_portions.specs.Shown.{portions_shown}
use Rattle.payee_portions.proofs.lands.territories_of.Given as goal

-- the territories of the portions so far
abbrev pub invariant-loop-place : goal.invariant-loop-place
invariant-loop-place l = AreTerritories (portions_shown (take l.place l.list)) l.codes.items
