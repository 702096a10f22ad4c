use Rattle.queue_core.proofs.PoolEnds.{pool_end_line}
use Rattle.queue_core.proofs.laws.law_end_line.Goals as goal

pub returns : goal.returns
returns c = pool_end_line
