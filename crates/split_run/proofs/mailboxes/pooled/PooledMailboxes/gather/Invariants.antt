use Rattle.std.specs.Vec.Iter.{into_iter_items}
use Rattle.split_run.proofs.PooledLemmas.{AreGathered}
use Rattle.split_run.proofs.mailboxes.pooled.PooledMailboxes.gather.Given as goal

-- the receivers so far are gathered
abbrev pub invariant-loop-inbox : goal.invariant-loop-inbox
invariant-loop-inbox g l =
    AreGathered l.workers g.P.Pool.receiver (g.P.Pool.tally l.initial.tally) (into_iter_items l.initial.inbox-iterator) (g.P.Pool.tally l.tally) (into_iter_items l.inbox-iterator)
