use Rattle.line_split.proofs.FairSigns.{signed_portions_are_fair}
use Rattle.line_split.proofs.laws.law_portions_are_fair.Goals as goal

pub returns : goal.returns
returns c = signed_portions_are_fair
