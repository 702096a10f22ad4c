use Rattle.std.proofs.Common.{◌∙◌, arith, sym}
use Rattle.std.proofs.lemmas.Fmt.{decimal_injective}
use Rattle.merge_statements.proofs.amount.size_of.Goals as goal

pub returns-in_default-clause-none : goal.returns-in_default-clause-none
returns-in_default-clause-none c = λ size some small is.
    let zero = c.in-Some.ensures.number in
    let same = decimal_injective c.in-Some.size size (omega (arith, zero.0)) (omega arith) (sym zero.1 ∙ is) in
    omega (arith, same, c.if-size-gt0.false)
