use Rattle.std.proofs.Common.{arith, inr, subst}
use Rattle.decimal_amounts.specs.Decimals.{HasNoSize}
use Rattle.decimal_amounts.proofs.amount.units_of.Goals as goal

pub returns-in-Err-clause-fault : goal.returns-in-Err-clause-fault
returns-in-Err-clause-fault c =
    inr (omega (arith, c.if-text-gt-MOST_AMOUNT_BYTES.false), subst (λ t. HasNoSize c.args.mark t c.args.places c.in-Err.fault) c.without_minus.ensures c.in-Err.ensures.fault)
