-- A row that is a line is not refused, so that a table has no fault but lack of memory.
use Rattle.std.proofs.Common.{ℕ, List}
use Rattle.line_split.specs.UsageLine.{UsageLine}
use Rattle.line_split.specs.UsageTable.{IsFaultOfRow, IsLine}
use Rattle.line_split.specs.declared.line_fault.LineFault.{LineFault}
use Rattle.line_split.specs.declared.line_fault.LineFault.TheVariants.{Csv, Fields, Territory, Right, Amount, Lines, Memory}

pub not_refused : (earlier : List UsageLine) (number : ℕ) (row : List (List ℕ)) (fault : LineFault) → IsLine row → ¬ IsFaultOfRow number row fault
not_refused earlier number row (Csv n) good refused = refused.1 good.whole
not_refused earlier number row (Fields n) good refused = refused.2 good.texts
not_refused earlier number row (Territory n) good refused = refused.3 good.territory
not_refused earlier number row (Right n) good refused = refused.4 good.right
not_refused earlier number row (Amount n) good refused = refused.5 good.amount
not_refused earlier number row Lines good refused = refused
not_refused earlier number row Memory good refused = refused
