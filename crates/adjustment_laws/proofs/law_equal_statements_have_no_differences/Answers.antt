use Rattle.adjustment_laws.proofs.OneAdjustment.{no_differences}
use Rattle.adjustment_laws.proofs.law_equal_statements_have_no_differences.Goals as goal

pub returns : goal.returns
returns c = no_differences
