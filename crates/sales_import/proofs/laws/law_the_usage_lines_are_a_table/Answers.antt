use Rattle.sales_import.proofs.UsageTable.{are_table, reads_back}
use Rattle.sales_import.proofs.laws.law_the_usage_lines_are_a_table.Goals as goal

pub returns-clause-reads_back : goal.returns-clause-reads_back
returns-clause-reads_back c = reads_back

pub returns-clause-table : goal.returns-clause-table
returns-clause-table c = are_table
