-- Rows of the table of payees.
use Rattle.std.proofs.Common.{ℕ, List}
use Rattle.cwr_share.specs.declared.payee_fault.PayeeFault.{PayeeFault}
use Rattle.cwr_share.specs.declared.payee_fault.PayeeFault.TheVariants.{Csv, Fields, Twice, Rows, Submitter, Memory}
use Rattle.linked_works.specs.SubmitterPayees.{IsFaultOfRow, IsPayeeRow}

-- no row that names a payee is refused
pub not_refused : (names : List (List ℕ)) (earlier : List (List ℕ × List ℕ)) (number : ℕ) (row : List (List ℕ)) (fault : PayeeFault)
    → IsPayeeRow names earlier row → ¬ IsFaultOfRow names earlier number row fault
not_refused names earlier number row (Csv n) good refused = refused.1 good.whole
not_refused names earlier number row (Fields n) good refused = refused.2 good.names_of
not_refused names earlier number row (Submitter n) good refused = refused.3 good.submitter
not_refused names earlier number row (Twice n) good refused = good.new refused.4
not_refused names earlier number row Rows good refused = refused
not_refused names earlier number row Memory good refused = refused
