use Rattle.std.proofs.Common.{◌∙◌, arith, sym}
use Rattle.merge_statements.proofs.NumberLemmas.{exact, no_zero, none_exact}
use Rattle.merge_statements.proofs.amount.number_of.Goals as goal

pub returns-then-has_needless_zero-clause-none : goal.returns-then-has_needless_zero-clause-none
returns-then-has_needless_zero-clause-none c = λ number small is.
    let needless = c.has_needless_zero.ensures.0 c.if-has_needless_zero.true in
    no_zero number c.args.field.now (omega (arith, small, c.ranges.most.fits)) needless.0 needless.1 is

pub returns-clause-number : goal.returns-clause-number
returns-clause-number c =
    exact c.args.most c.args.field.now c.number_up_to.result c.ranges.most.fits
    (λ needless. cc (sym (c.has_needless_zero.ensures.1 needless) ∙ c.if-has_needless_zero.false)) c.number_up_to.ensures.number

pub returns-clause-none : goal.returns-clause-none
returns-clause-none c = none_exact c.args.most c.args.field.now c.number_up_to.result c.ranges.most.fits c.number_up_to.ensures.none
