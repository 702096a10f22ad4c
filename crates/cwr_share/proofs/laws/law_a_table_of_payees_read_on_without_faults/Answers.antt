use Rattle.csv_table.proofs.ItemWalks.{read_without_faults}
use Rattle.cwr_share.specs.PayeeTable.{payee_rules}
use Rattle.cwr_share.proofs.laws.law_a_table_of_payees_read_on_without_faults.Goals as goal

pub returns : goal.returns
returns c = read_without_faults payee_rules
