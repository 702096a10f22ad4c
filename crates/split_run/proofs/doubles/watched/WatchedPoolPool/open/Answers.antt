use Rattle.std.proofs.Common.{arith, length, ◌≡◌}
use Rattle.pool_box.specs.Pools.{opened_receiver}
use Rattle.split_run.proofs.WatchedLemmas.{holds_of_mapped}
use Rattle.split_run.proofs.doubles.watched.WatchedPoolPool.open.Goals as goal

pub returns-clause-receivers : goal.returns-clause-receivers
returns-clause-receivers g c = λ b lt.
    let pool = c.in_ok-senders in
    let places : length pool.receivers.items ≡ c.args.mailboxes = omega (arith, pool.receivers.ok.0, pool.ensures.count.1) in
    holds_of_mapped (λ one. one.receiver) (λ r. g.P.Pool.receiver r ≡ opened_receiver (g.P.Pool.tally pool.tally).pool b c.args.senders) c.in_ok-receivers.receivers.items pool.receivers.items b
    c.in_ok-receivers.ensures (omega (arith, lt, places)) (pool.ensures.receivers b lt)
