use Rattle.std.proofs.Common.{◌≡◌, map, take}
use Rattle.file_form.specs.SoFar.{type_with}
use Rattle.file_form.proofs.types.first_of.Given as goal

abbrev pub invariant-loop-place : goal.invariant-loop-place
invariant-loop-place l = l.first.items ≡ take l.place (map type_with l.types.entries)
