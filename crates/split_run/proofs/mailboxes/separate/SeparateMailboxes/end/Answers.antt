use Rattle.std.proofs.Common.{ap, ◌∙◌, sym}
use Rattle.split_run.proofs.SeparateLemmas.{ended_or_not, seen_there}
use Rattle.split_run.proofs.mailboxes.separate.SeparateMailboxes.end.Goals as goal

pub end-requires : goal.end-requires
end-requires g c =
    let s = g.M.Mail.sender c.index-all-account.result in
    sym (ap (λ v. v.is_ended) (seen_there g.M.Mail.sender c.args.all.now c.args.account c.index-all-account.result c.requires.account s)) ∙ c.requires.open s

pub returns : goal.returns
returns g c = ended_or_not g.M.Mail.sender c.args.all.now c.args.account c.index-all-account.result c.requires.account c.end.new.s c.end.result c.end.ensures
