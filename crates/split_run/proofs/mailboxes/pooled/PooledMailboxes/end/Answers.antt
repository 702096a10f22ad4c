use Rattle.std.proofs.Common.{ap, ◌∙◌, sym}
use Rattle.split_run.specs.PoolSeen.{sender_at}
use Rattle.split_run.proofs.PooledLemmas.{has_ended, is_mailbox, is_there}
use Rattle.split_run.proofs.mailboxes.pooled.PooledMailboxes.end.Goals as goal

pub end-requires-clause-mailbox : goal.end-requires-clause-mailbox
end-requires-clause-mailbox g c = is_mailbox g.P.Pool.sender c.args.all.now c.args.account c.index-all-0.result c.requires.account

pub end-requires-clause-open : goal.end-requires-clause-open
end-requires-clause-open g c =
    let s = sender_at (g.P.Pool.sender c.index-all-0.result) c.args.account in
    sym (ap (λ v. v.is_ended) (is_there g.P.Pool.sender c.args.all.now c.args.account c.index-all-0.result c.requires.account s)) ∙ c.requires.open s

pub returns : goal.returns
returns g c = has_ended g.P.Pool.sender c.args.all.now c.args.account c.index-all-0.result c.requires.account c.end.new.s c.end.ensures
