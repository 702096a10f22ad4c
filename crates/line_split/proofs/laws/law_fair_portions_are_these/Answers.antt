use Rattle.line_split.proofs.FairSigns.{only_fair_signed}
use Rattle.line_split.proofs.laws.law_fair_portions_are_these.Goals as goal

pub returns : goal.returns
returns c = only_fair_signed
