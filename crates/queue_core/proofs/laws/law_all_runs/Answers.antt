use Rattle.queue_core.proofs.PoolOne.{all_runs}
use Rattle.queue_core.proofs.laws.law_all_runs.Goals as goal

pub returns : goal.returns
returns c = all_runs
