use Rattle.std.proofs.Common.{◌∙◌, ap}
use Rattle.pool_relay.proofs.Relayed.{HasAll, all_of_first, all_of_second, both_ended}
use Rattle.pool_relay.proofs.two_mailboxes.relay.Given.{Over}
use Rattle.pool_relay.proofs.two_mailboxes.relay.Goals as goal

has_all : (g : Over) (c : goal.After-take_in-2 g)
    → HasAll (g.P.Pool.tally c.take_in-2.new.t) (g.P.Pool.receiver c.join-sent.result.1.0) (g.P.Pool.receiver c.join-sent.result.1.1) (g.P.Pool.sender c.join-sent.result.0.0) (g.P.Pool.sender c.join-sent.result.0.1)
has_all g c =
    let sent = c.join-sent.ensures.first in
    let received = c.join-sent.ensures.second in
    let opened = c.in_ok-senders.ensures in
    let here = received.0 in
    let there = received.1 in
    record {
      old = g.P.Pool.tally c.in_ok-senders.tally;
      with_here = g.P.Pool.tally c.gather.new.t;
      with_both = g.P.Pool.tally c.gather-2.new.t;
      with_first = g.P.Pool.tally c.take_in.new.t;
      one = c.gather.ensures.gathered;
      two = c.gather-2.ensures.gathered;
      three = c.take_in.ensures.known;
      four = c.take_in-2.ensures.known;
      begins = c.take_in-2.ensures.begins;
      mailboxes = (here.1 ∙ ap (λ v. v.mailbox) opened.here, there.1 ∙ ap (λ v. v.mailbox) opened.there);
      numbers = (sent.0.1 ∙ ap (λ v. v.number) opened.first, sent.1.1 ∙ ap (λ v. v.number) opened.second);
      ends = λ p low. (both_ended (g.P.Pool.receiver c.join-sent.result.1.0).got here.2 here.3 p low, both_ended (g.P.Pool.receiver c.join-sent.result.1.1).got there.2 there.3 p low);
    }

pub returns-clause-first : goal.returns-clause-first
returns-clause-first g c =
    all_of_first (g.P.Pool.tally c.take_in-2.new.t) (g.P.Pool.receiver c.join-sent.result.1.0) (g.P.Pool.receiver c.join-sent.result.1.1) (g.P.Pool.sender c.join-sent.result.0.0) (g.P.Pool.sender c.join-sent.result.0.1) (has_all g c) c.args.posts.now c.join-sent.ensures.first.0.3

pub returns-clause-second : goal.returns-clause-second
returns-clause-second g c =
    all_of_second (g.P.Pool.tally c.take_in-2.new.t) (g.P.Pool.receiver c.join-sent.result.1.0) (g.P.Pool.receiver c.join-sent.result.1.1) (g.P.Pool.sender c.join-sent.result.0.0) (g.P.Pool.sender c.join-sent.result.0.1) (has_all g c) c.args.others.now c.join-sent.ensures.first.1.3
