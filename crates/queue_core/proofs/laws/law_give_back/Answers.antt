use Rattle.queue_core.proofs.PoolGive.{pool_give_back}
use Rattle.queue_core.proofs.PoolTells.{give_back_tells}
use Rattle.queue_core.proofs.laws.law_give_back.Goals as goal

pub returns-clause-shows : goal.returns-clause-shows
returns-clause-shows c = pool_give_back

pub returns-clause-tells : goal.returns-clause-tells
returns-clause-tells c = give_back_tells
