use Rattle.std.proofs.Common.{length}
use Rattle.sales_lines.proofs.source.«+are_there».Given as goal

abbrev pub decreases-are_there : goal.decreases-are_there
decreases-are_there l = length l.sources.now
