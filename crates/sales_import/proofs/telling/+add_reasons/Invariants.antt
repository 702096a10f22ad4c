use Rattle.std.proofs.Common.{length}
use Rattle.sales_import.proofs.telling.+add_reasons.Given as goal

abbrev pub decreases-add_reasons : goal.decreases-add_reasons
decreases-add_reasons l = length l.reasons.now
