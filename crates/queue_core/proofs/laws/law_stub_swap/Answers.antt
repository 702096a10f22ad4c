use Rattle.queue_core.proofs.PoolReads.{pool_stub_swap}
use Rattle.queue_core.proofs.laws.law_stub_swap.Goals as goal

pub returns : goal.returns
returns c = pool_stub_swap
