use Rattle.csv_table.proofs.ItemWalks.{no_fault}
use Rattle.linked_works.specs.SubmitterPayees.{payee_rules}
use Rattle.linked_works.proofs.PayeeRows.{not_refused}
use Rattle.linked_works.proofs.laws.law_a_table_of_payees_has_no_fault.Goals as goal

pub returns : goal.returns
returns c = λ names. no_fault (payee_rules names) (not_refused names)
