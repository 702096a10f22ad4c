use Rattle.std.proofs.Common.{ap, ◌<◌, ◌∙◌, subst, sym, w64}
use Rattle.std.proofs.lemmas.Int.{to_z-of_z}
use Rattle.split_run.specs.PoolSeen.{sender_at}
use Rattle.split_run.proofs.PooledLemmas.{is_mailbox, is_there, sent_or_not}
use Rattle.split_run.proofs.mailboxes.pooled.PooledMailboxes.try_send.Goals as goal

pub try_send-requires-clause-mailbox : goal.try_send-requires-clause-mailbox
try_send-requires-clause-mailbox g c = is_mailbox g.P.Pool.sender c.args.all.now c.args.account c.index-all-0.result c.requires.account

pub try_send-requires-clause-open : goal.try_send-requires-clause-open
try_send-requires-clause-open g c =
    let s = sender_at (g.P.Pool.sender c.index-all-0.result) c.args.account in
    sym (ap (λ v. v.is_ended) (is_there g.P.Pool.sender c.args.all.now c.args.account c.index-all-0.result c.requires.account s)) ∙ c.requires.open s

pub try_send-requires-clause-left : goal.try_send-requires-clause-left
try_send-requires-clause-left g c =
    let s = sender_at (g.P.Pool.sender c.index-all-0.result) c.args.account in
    subst (λ v. 0 < v.left) (is_there g.P.Pool.sender c.args.all.now c.args.account c.index-all-0.result c.requires.account s) (c.requires.left s)

pub returns-clause-sent : goal.returns-clause-sent
returns-clause-sent g c = (sent_or_not g.P.Pool.sender c.args.all.now c.args.account c.index-all-0.result c.requires.account c.args.line c.args.amount _ c.try_send.new.s c.try_send.result (to_z-of_z w64 c.args.amount c.ranges.amount) c.try_send.ensures).0

pub returns-clause-spent : goal.returns-clause-spent
returns-clause-spent g c = (sent_or_not g.P.Pool.sender c.args.all.now c.args.account c.index-all-0.result c.requires.account c.args.line c.args.amount _ c.try_send.new.s c.try_send.result (to_z-of_z w64 c.args.amount c.ranges.amount) c.try_send.ensures).1
