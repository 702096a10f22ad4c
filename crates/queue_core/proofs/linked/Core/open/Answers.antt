use Rattle.std.proofs.Common.{◌≡◌, arith, length, subst, sym}
use Rattle.queue_core.specs.declared.TheConstants.{MOST_POSTS}
use Rattle.queue_core.specs.Pooled.{IsPooled, Pooled}
use Rattle.queue_core.proofs.PoolOpening.{many_heads, opening_keeps}
use Rattle.queue_core.proofs.linked.Core.open.Goals as goal

pub invariant_of-result : goal.invariant_of-result
invariant_of-result c =
    subst (λ (core : Pooled). IsPooled core × (length core.heads ≡ 1)) (sym c.in_ok-state.ensures) (
      opening_keeps c.args.senders 1 c.args.nodes MOST_POSTS c.requires.senders.0 c.requires.senders.1 (omega arith) (omega arith) c.requires.nodes.0 c.requires.nodes.1 (omega arith),
      many_heads c.args.senders 1 c.args.nodes MOST_POSTS c.requires.senders.0 c.requires.senders.1 (omega arith) (omega arith) c.requires.nodes.0 c.requires.nodes.1 (omega arith),
    )
