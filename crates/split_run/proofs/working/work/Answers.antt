use Rattle.std.proofs.Common.{arith, false, map, ◌∙◌}
use Rattle.std.proofs.lemmas.List.{length-map}
use Rattle.block_draw.specs.Views.{drawer_of}
use Rattle.split_run.specs.Blocks.{postings_of}
use Rattle.split_run.specs.Divisions.{division_by}
use Rattle.split_run.proofs.WorkingLemmas.{all_sent}
use Rattle.split_run.proofs.working.work.Goals as goal

pub work_on-requires-clause-accounts : goal.work_on-requires-clause-accounts
work_on-requires-clause-accounts g c κs within = length-map c.args.senders.now g.M.Mail.sender ∙ c.requires.accounts

pub returns-clause-sent : goal.returns-clause-sent
returns-clause-sent g c = λ yes account s below.
    all_sent false (map g.M.Mail.sender c.args.senders.now) (map g.M.Mail.sender c.work_on.new.senders) (λ account. postings_of (division_by c.args.tis.now c.args.registry.now) c.args.usage.now account (drawer_of c.work_on.new.drawer).drawn)
    c.requires.fresh (c.work_on.ensures.ended yes) account s (omega (arith, below, length-map c.args.senders.now g.M.Mail.sender))
