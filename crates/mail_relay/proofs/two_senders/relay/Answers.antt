use Rattle.std.proofs.Common.{◌∙◌}
use Rattle.mail_relay.proofs.Relayed.{AreTakenIn, all_of_first, all_of_second}
use Rattle.mail_relay.proofs.two_senders.relay.Given.{Over}
use Rattle.mail_relay.proofs.two_senders.relay.Goals as goal

taken_in : (g : Over) (c : goal.After-take_in-2 g)
    → AreTakenIn (g.M.Mail.receiver c.join-sent.result.1) (g.M.Mail.receiver c.take_in.new.r) (g.M.Mail.receiver c.take_in-2.new.r) (g.M.Mail.sender c.join-sent.result.0.0) (g.M.Mail.sender c.join-sent.result.0.1)
taken_in g c =
    let sent = c.join-sent.ensures.first in
    record { numbers = (sent.0.1 ∙ c.requires.numbers.0, sent.1.1 ∙ c.requires.numbers.1); one = c.take_in.ensures.known; two = c.take_in-2.ensures.known; begins = c.take_in-2.ensures.begins }

pub returns-clause-first : goal.returns-clause-first
returns-clause-first g c =
    let sent = c.join-sent.ensures.first in
    all_of_first (g.M.Mail.receiver c.join-sent.result.1) (g.M.Mail.receiver c.take_in.new.r) (g.M.Mail.receiver c.take_in-2.new.r) (g.M.Mail.sender c.join-sent.result.0.0) (g.M.Mail.sender c.join-sent.result.0.1) c.args.posts.now (taken_in g c) sent.0.3 c.join-sent.ensures.second.1

pub returns-clause-second : goal.returns-clause-second
returns-clause-second g c =
    let sent = c.join-sent.ensures.first in
    all_of_second (g.M.Mail.receiver c.join-sent.result.1) (g.M.Mail.receiver c.take_in.new.r) (g.M.Mail.receiver c.take_in-2.new.r) (g.M.Mail.sender c.join-sent.result.0.0) (g.M.Mail.sender c.join-sent.result.0.1) c.args.others.now (taken_in g c) sent.1.3 c.join-sent.ensures.second.2
