use Rattle.merge_statements.proofs.FieldLemmas.{if_none}
use Rattle.merge_statements.proofs.NumberLemmas.{none_negative}
use Rattle.merge_statements.proofs.amount.amount_of.Goals as goal

pub returns-in_err-size_of-in-Some-clause-none : goal.returns-in_err-size_of-in-Some-clause-none
returns-in_err-size_of-in-Some-clause-none c =
    if_none c.from_residual.result (none_negative c.args.field.now c.in-Some.digits.now c.in-Some.ensures.digits c.in_err-size_of-in-Some.ensures.none)
