-- A row that names a payee is not refused, so that a table has no fault but lack of memory.
use Rattle.std.proofs.Common.{ℕ, List}
use Rattle.cwr_share.specs.PayeeTable.{IsFaultOfRow, IsPayeeRow}
use Rattle.cwr_share.specs.declared.payee_fault.PayeeFault.{PayeeFault}
use Rattle.cwr_share.specs.declared.payee_fault.PayeeFault.TheVariants.{Csv, Fields, Twice, Rows, Submitter, Memory}

pub not_refused : (earlier : List (List ℕ × List ℕ)) (number : ℕ) (row : List (List ℕ)) (fault : PayeeFault) → IsPayeeRow earlier row → ¬ IsFaultOfRow earlier number row fault
not_refused earlier number row (Csv n) good refused = refused.1 good.whole
not_refused earlier number row (Fields n) good refused = refused.2 good.names
not_refused earlier number row (Twice n) good refused = good.new refused.3
not_refused earlier number row Rows good refused = refused
not_refused earlier number row (Submitter n) good refused = refused
not_refused earlier number row Memory good refused = refused
