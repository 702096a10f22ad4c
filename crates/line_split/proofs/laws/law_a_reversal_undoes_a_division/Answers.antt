use Rattle.line_split.proofs.FairSigns.{reversed_portions}
use Rattle.line_split.proofs.laws.law_a_reversal_undoes_a_division.Goals as goal

pub returns : goal.returns
returns c = reversed_portions
