use Rattle.std.proofs.Common.{length}
use Rattle.sales_lines.proofs.settings.«+hold».Given as goal

abbrev pub decreases-hold : goal.decreases-hold
decreases-hold l = length l.conditions.now
