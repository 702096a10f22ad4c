use Rattle.cwr_share.proofs.FiledLemmas.{in_force_is}
use Rattle.cwr_share.proofs.laws.law_the_last_opening_is_in_force.Goals as goal

pub returns : goal.returns
returns c = in_force_is
