use Rattle.queue_core.proofs.PoolFill.{pool_load_turn}
use Rattle.queue_core.proofs.PoolFree.{free_tells}
use Rattle.queue_core.proofs.laws.law_load_turn.Goals as goal

pub returns-clause-shows : goal.returns-clause-shows
returns-clause-shows c = pool_load_turn

pub returns-clause-tells : goal.returns-clause-tells
returns-clause-tells c = free_tells
