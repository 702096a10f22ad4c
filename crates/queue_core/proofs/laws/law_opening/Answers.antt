use Rattle.queue_core.proofs.PoolRuns.{pool_opening}
use Rattle.queue_core.proofs.laws.law_opening.Goals as goal

pub returns : goal.returns
returns c = pool_opening
