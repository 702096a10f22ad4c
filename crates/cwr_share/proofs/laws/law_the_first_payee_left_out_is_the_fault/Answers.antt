use Rattle.csv_table.proofs.ItemWalks.{read_up_to_a_fault}
use Rattle.cwr_share.specs.PayeeTable.{payee_rules}
use Rattle.cwr_share.proofs.laws.law_the_first_payee_left_out_is_the_fault.Goals as goal

pub returns : goal.returns
returns c = read_up_to_a_fault payee_rules
