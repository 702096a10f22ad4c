use Rattle.split_run.proofs.Reversals.{portions_undone, totals_undone}
use Rattle.split_run.proofs.laws.law_a_reversal_undoes_a_line.Goals as goal

pub returns-clause-portions : goal.returns-clause-portions
returns-clause-portions c = portions_undone

pub returns-clause-totals : goal.returns-clause-totals
returns-clause-totals c = totals_undone
