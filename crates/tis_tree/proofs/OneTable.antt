-- A row that is a territory is not refused, so that a table has no fault but lack of memory.
use Rattle.std.proofs.Common.{ℕ, List}
use Rattle.tis_tree.specs.TisRows.{IsFaultOfRow, IsTerritory}
use Rattle.tis_tree.specs.declared.tis_fault.TisFault.{TisFault}
use Rattle.tis_tree.specs.declared.tis_fault.TisFault.TheVariants.{Csv, Code, Twice, Group, Rows, Memory}

pub not_refused : (earlier : List (ℕ × List ℕ)) (number : ℕ) (row : List (List ℕ)) (fault : TisFault) → IsTerritory earlier row → ¬ IsFaultOfRow earlier number row fault
not_refused earlier number row (Csv n) good refused = refused.1 good.whole
not_refused earlier number row (Code n) good refused = refused.2 good.code
not_refused earlier number row (Twice n) good refused = good.new refused.3
not_refused earlier number row (Group n) good refused = refused.4 good.groups
not_refused earlier number row Rows good refused = refused
not_refused earlier number row Memory good refused = refused
