use Rattle.sales_import.proofs.Sums.{adds_up}
use Rattle.sales_import.proofs.laws.law_a_summary_adds_up.Goals as goal

pub returns : goal.returns
returns c = adds_up
