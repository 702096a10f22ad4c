use Rattle.line_split.proofs.FairSigns.{signed_portions-over}
use Rattle.line_split.proofs.laws.law_over_goes_to_the_residue.Goals as goal

pub returns : goal.returns
returns c = signed_portions-over
