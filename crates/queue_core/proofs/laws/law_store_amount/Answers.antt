use Rattle.queue_core.proofs.PoolStores.{pool_store_amount}
use Rattle.queue_core.proofs.laws.law_store_amount.Goals as goal

pub returns : goal.returns
returns c = pool_store_amount
