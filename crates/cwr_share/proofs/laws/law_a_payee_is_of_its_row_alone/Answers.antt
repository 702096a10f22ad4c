use Rattle.cwr_share.proofs.PayeeLemmas.{payee_of_itself, payee_of_others, payee_of_row}
use Rattle.cwr_share.proofs.laws.law_a_payee_is_of_its_row_alone.Goals as goal

pub returns-clause-row : goal.returns-clause-row
returns-clause-row c = payee_of_row

pub returns-clause-others : goal.returns-clause-others
returns-clause-others c = payee_of_others

pub returns-clause-itself : goal.returns-clause-itself
returns-clause-itself c = payee_of_itself
