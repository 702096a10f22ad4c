use Rattle.queue_core.proofs.PoolRuns.{all_pool_runs}
use Rattle.queue_core.proofs.laws.law_pool_runs.Goals as goal

pub returns : goal.returns
returns c = all_pool_runs
