use Rattle.std.proofs.Common.{ap, ◌<◌, ◌∙◌, subst, sym, w64}
use Rattle.std.proofs.lemmas.Int.{to_z-of_z}
use Rattle.split_run.proofs.SeparateLemmas.{seen_there, sent_or_not}
use Rattle.split_run.proofs.mailboxes.separate.SeparateMailboxes.try_send.Goals as goal

pub try_send-requires-clause-open : goal.try_send-requires-clause-open
try_send-requires-clause-open g c =
    let s = g.M.Mail.sender c.index-all-account.result in
    sym (ap (λ v. v.is_ended) (seen_there g.M.Mail.sender c.args.all.now c.args.account c.index-all-account.result c.requires.account s)) ∙ c.requires.open s

pub try_send-requires-clause-left : goal.try_send-requires-clause-left
try_send-requires-clause-left g c =
    let s = g.M.Mail.sender c.index-all-account.result in
    subst (λ v. 0 < v.left) (seen_there g.M.Mail.sender c.args.all.now c.args.account c.index-all-account.result c.requires.account s) (c.requires.left s)

pub returns-clause-sent : goal.returns-clause-sent
returns-clause-sent g c =
    sent_or_not g.M.Mail.sender c.args.all.now c.args.account c.index-all-account.result c.requires.account c.args.line c.args.amount _ c.try_send.new.s c.try_send.result (to_z-of_z w64 c.args.amount c.ranges.amount) c.try_send.ensures
