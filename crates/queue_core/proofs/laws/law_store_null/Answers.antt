use Rattle.queue_core.proofs.PoolStores.{pool_store_null}
use Rattle.queue_core.proofs.laws.law_store_null.Goals as goal

pub returns : goal.returns
returns c = pool_store_null
