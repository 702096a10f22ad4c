use Rattle.std.proofs.Common.{◌≡◌, ◌∷◌, map, take}
use Rattle.sales_import.proofs.page.fields_of.Given as goal

-- the fields so far
abbrev pub invariant-loop-place : goal.invariant-loop-place
invariant-loop-place l = map (λ field. field.now) l.fields.items ≡ l.first ∷ l.second ∷ take l.place l.row
