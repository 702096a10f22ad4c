use Rattle.csv_table.proofs.RowParts.{rows_at_a_feed}
use Rattle.csv_table.proofs.laws.law_rows_of_two_parts.Goals as goal

pub returns : goal.returns
returns c = rows_at_a_feed
