use Rattle.split_run.proofs.PooledLemmas.{next_pool, next_there, one_gathered}
use Rattle.split_run.proofs.mailboxes.pooled.PooledMailboxes.gather.Goals as goal

pub gather-requires : goal.gather-requires
gather-requires g c = next_pool c.args.kept.workers g.P.Pool.receiver c.into_iter-inbox-iterator.ensures.into_iter_gives.0 c.requires c.loop-inbox.invariant c.in-Some.ensures.steps.0 c.in-Some-inbox.receiver c.in-Some-inbox.is

pub loop-inbox-preserved-in-Some-inbox : goal.loop-inbox-preserved-in-Some-inbox
loop-inbox-preserved-in-Some-inbox g c =
    one_gathered c.args.kept.workers g.P.Pool.receiver c.into_iter-inbox-iterator.ensures.into_iter_gives.0 c.requires c.loop-inbox.invariant c.in-Some.ensures.steps.0 c.in-Some-inbox.receiver c.in-Some-inbox.is
    (g.P.Pool.tally c.gather.new.t) c.gather.ensures.gathered

pub loop-inbox-preserved : goal.loop-inbox-preserved
loop-inbox-preserved g c =
    absurd (next_there c.args.kept.workers g.P.Pool.receiver c.into_iter-inbox-iterator.ensures.into_iter_gives.0 c.requires c.loop-inbox.invariant c.in-Some.ensures.steps.0 c.in_default.is)
