use Rattle.decimal_amounts.proofs.Powers.{amounts_one}
use Rattle.decimal_amounts.proofs.laws.law_a_text_has_one_amount.Goals as goal

pub returns : goal.returns
returns c = amounts_one
