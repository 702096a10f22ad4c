use Rattle.sales_import.proofs.UsageRows.{has_amount, is_line}
use Rattle.sales_import.proofs.laws.law_lines_are_usage_lines.Goals as goal

pub returns-clause-row : goal.returns-clause-row
returns-clause-row c = is_line

pub returns-clause-amount : goal.returns-clause-amount
returns-clause-amount c = has_amount
