use Rattle.std.proofs.Common.{arith, subst, sym}
use Rattle.queue_core.specs.declared.TheConstants.{MOST_POOL_POSTS}
use Rattle.queue_core.specs.Pooled.{IsPooled}
use Rattle.queue_core.proofs.PoolOpening.{opening_keeps}
use Rattle.queue_core.proofs.pool.PoolCore.open.Goals as goal

pub invariant_of-result : goal.invariant_of-result
invariant_of-result c =
    subst IsPooled (sym c.in_ok-state.ensures)
    (opening_keeps c.args.senders c.args.mailboxes c.args.nodes MOST_POOL_POSTS c.requires.senders.0 c.requires.senders.1 c.requires.mailboxes.0 c.requires.mailboxes.1 c.requires.nodes.0
    c.requires.nodes.1 (omega arith))
