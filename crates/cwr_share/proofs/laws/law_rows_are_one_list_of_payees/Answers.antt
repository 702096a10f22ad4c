use Rattle.csv_table.proofs.ItemWalks.{one_table}
use Rattle.cwr_share.specs.PayeeTable.{payee_rules}
use Rattle.cwr_share.proofs.laws.law_rows_are_one_list_of_payees.Goals as goal

pub returns : goal.returns
returns c = one_table payee_rules
