use Rattle.std.proofs.Common.{arith, length, refl, ◌*◌, ◌≡◌}
use Rattle.split_run.specs.PoolSeen.{senders_of}
use Rattle.split_run.proofs.PooledLemmas.{each_alone, kept_for, opened_there}
use Rattle.split_run.proofs.mailboxes.pooled.PooledMailboxes.open.Goals as goal

pub returns-clause-mailboxes : goal.returns-clause-mailboxes
returns-clause-mailboxes g c =
    let pool = c.in_ok-senders in
    let places : length pool.receivers.items ≡ c.args.accounts = omega (arith, pool.receivers.ok.0, pool.ensures.count.1) in
    let count : length pool.senders.items ≡ c.args.workers = omega (arith, pool.senders.ok.0, pool.ensures.count.0) in
    rw (each_alone (λ own. own.items) (senders_of g.P.Pool.sender) c.in_ok-lists.lists.items pool.senders.items c.in_ok-lists.ensures, c.in_ok-inboxes.ensures)
    (opened_there g.P.Pool.sender g.P.Pool.receiver (g.P.Pool.tally pool.tally).pool c.args.workers c.args.accounts c.args.nodes (257 * c.args.lines) pool.senders.items pool.receivers.items places pool.ensures.receivers count pool.ensures.senders)

pub returns-clause-kept : goal.returns-clause-kept
returns-clause-kept g c = λ account inbox got is.
    let pool = c.in_ok-senders in
    let places : length pool.receivers.items ≡ c.args.accounts = omega (arith, pool.receivers.ok.0, pool.ensures.count.1) in
    kept_for g.P.Pool.sender g.P.Pool.receiver (g.P.Pool.tally pool.tally).pool c.args.workers c.args.accounts c.args.nodes (257 * c.args.lines) pool.senders.items pool.receivers.items places pool.ensures.receivers (g.P.Pool.tally pool.tally) pool.ensures.tally
    refl account inbox got (rw c.in_ok-inboxes.ensures at is)
