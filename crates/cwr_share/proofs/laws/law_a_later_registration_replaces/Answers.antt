use Rattle.cwr_share.proofs.FileLemmas.{in_force_alone, in_force_whole}
use Rattle.cwr_share.proofs.laws.law_a_later_registration_replaces.Goals as goal

pub returns-clause-whole : goal.returns-clause-whole
returns-clause-whole c lines body opening = in_force_whole lines opening body

pub returns-clause-alone : goal.returns-clause-alone
returns-clause-alone c lines body opening work = in_force_alone lines opening body work
