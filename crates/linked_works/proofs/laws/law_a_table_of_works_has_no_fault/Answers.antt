use Rattle.csv_table.proofs.ItemWalks.{no_fault}
use Rattle.linked_works.specs.WorksTable.{works_rules}
use Rattle.linked_works.proofs.LinkRows.{not_refused}
use Rattle.linked_works.proofs.laws.law_a_table_of_works_has_no_fault.Goals as goal

pub returns : goal.returns
returns c = λ names. no_fault (works_rules names) (not_refused names)
