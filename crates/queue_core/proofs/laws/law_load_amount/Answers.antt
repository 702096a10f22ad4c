use Rattle.queue_core.proofs.PoolReads.{pool_load_amount}
use Rattle.queue_core.proofs.PoolTells.{held_tells}
use Rattle.queue_core.proofs.laws.law_load_amount.Goals as goal

pub returns-clause-shows : goal.returns-clause-shows
returns-clause-shows c = pool_load_amount

pub returns-clause-tells : goal.returns-clause-tells
returns-clause-tells c = held_tells
