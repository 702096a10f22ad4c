use Rattle.queue_core.proofs.PoolReads.{pool_stub_link}
use Rattle.queue_core.proofs.laws.law_stub_link.Goals as goal

pub returns : goal.returns
returns c = pool_stub_link
