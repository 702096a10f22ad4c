use Rattle.std.proofs.Common.{◌∙◌, ap, List, w64, ℕ, ℤ}
use Rattle.std.proofs.lemmas.Int.{to_z-of_z}
use Rattle.line_split.specs.Signs.{int_sum_by, signed_portions_of}
use Rattle.line_split.proofs.Signs.{portions_add_up}
use Rattle.line_split.proofs.portions.split.Goals as goal

pub returns-clause-portions : goal.returns-clause-portions
returns-clause-portions c =
    c.divide.ensures.portions ∙ (λ i. signed_portions_of (to_z-of_z w64 c.args.amount c.ranges.amount i) (c.list.ensures.value i))

pub returns-clause-adds_up : goal.returns-clause-adds_up
returns-clause-adds_up c =
    ap (λ (l : List (ℕ × ℤ)). int_sum_by (λ portion. portion.1) l) (returns-clause-portions c)
    ∙ portions_add_up c.args.amount c.args.claims.now.list
