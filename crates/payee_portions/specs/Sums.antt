-- What portions come to.
use Rattle.std.specs.Prelude.{ℤ, Bool, true, false, List, filter}
use Rattle.line_split.specs.Signs.{int_sum_by}
use Rattle.line_split.specs.declared.usage.Right.{Right}
use Rattle.line_split.specs.declared.usage.Right.TheVariants.{P, M, S}
use Rattle.payee_portions.specs.Portions.{Portion}

abbrev pub sum_of : List Portion → ℤ
sum_of portions = int_sum_by (λ portion. portion.amount) portions

abbrev pub is_same : Right → Right → Bool
is_same P P = true
is_same M M = true
is_same S S = true
is_same _ _ = false

-- those of a right
abbrev pub portions_for : Right → List Portion → List Portion
portions_for right portions = filter (λ portion. is_same portion.line.right right) portions

-- what these come to
abbrev pub sum_for : Right → List Portion → ℤ
sum_for right portions = sum_of (portions_for right portions)
