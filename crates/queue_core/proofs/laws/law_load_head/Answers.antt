use Rattle.queue_core.proofs.PoolReads.{pool_load_head}
use Rattle.queue_core.proofs.PoolTells.{head_tells}
use Rattle.queue_core.proofs.laws.law_load_head.Goals as goal

pub returns-clause-shows : goal.returns-clause-shows
returns-clause-shows c = pool_load_head

pub returns-clause-tells : goal.returns-clause-tells
returns-clause-tells c = head_tells
