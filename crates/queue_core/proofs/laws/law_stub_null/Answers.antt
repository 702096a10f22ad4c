use Rattle.queue_core.proofs.PoolReads.{pool_stub_null}
use Rattle.queue_core.proofs.laws.law_stub_null.Goals as goal

pub returns : goal.returns
returns c = pool_stub_null
