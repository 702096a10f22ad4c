use Rattle.csv_table.proofs.ItemWalks.{no_fault}
use Rattle.cwr_share.specs.PayeeTable.{payee_rules}
use Rattle.cwr_share.proofs.PayeeRows.{not_refused}
use Rattle.cwr_share.proofs.laws.law_a_table_of_payees_has_no_fault.Goals as goal

pub returns : goal.returns
returns c = no_fault payee_rules not_refused
