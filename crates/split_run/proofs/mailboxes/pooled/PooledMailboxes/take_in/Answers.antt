use Rattle.split_run.proofs.PooledLemmas.{taken_each, taken_has_ended, taken_of_pool}
use Rattle.split_run.proofs.mailboxes.pooled.PooledMailboxes.take_in.Goals as goal

pub take_in-requires-clause-pool : goal.take_in-requires-clause-pool
take_in-requires-clause-pool g c =
    let all = c.args.all.now in
    taken_of_pool g.P.Pool.sender (g.P.Pool.tally all.tally) all.accounts all.workers c.args.own.items c.pop.new.self.items c.in-Some.sender c.requires.some c.requires.count c.requires.ended c.in-Some.ensures.items

pub take_in-requires-clause-ended : goal.take_in-requires-clause-ended
take_in-requires-clause-ended g c =
    let all = c.args.all.now in
    taken_has_ended g.P.Pool.sender (g.P.Pool.tally all.tally) all.accounts all.workers c.args.own.items c.pop.new.self.items c.in-Some.sender c.requires.some c.requires.count c.requires.ended c.in-Some.ensures.items

pub returns-in-Some-clause-each : goal.returns-in-Some-clause-each
returns-in-Some-clause-each g c =
    let all = c.args.all.now in
    taken_each g.P.Pool.sender (g.P.Pool.tally all.tally) all.accounts all.workers c.args.own.items c.pop.new.self.items c.in-Some.sender c.requires.some c.requires.count c.requires.ended c.in-Some.ensures.items
    (g.P.Pool.tally c.take_in.new.t) c.take_in.ensures.known c.take_in.ensures.begins
