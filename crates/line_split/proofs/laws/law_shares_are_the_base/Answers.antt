use Rattle.line_split.proofs.Fair.{shares_sum}
use Rattle.line_split.proofs.laws.law_shares_are_the_base.Goals as goal

pub returns : goal.returns
returns c = shares_sum
