use Rattle.csv.specs.Reading.{strip_bom}
use Rattle.csv_table.proofs.RowCounts.{rows_count}
use Rattle.csv_table.proofs.Walks.{all_left}
use Rattle.csv_table.proofs.rows.Rows.of.Goals as goal

pub returns-clause-left : goal.returns-clause-left
returns-clause-left c = rw (c.from_reader.ensures.state, c.from_reader.ensures.source) (all_left (strip_bom c.args.text.now))

pub returns-clause-few : goal.returns-clause-few
returns-clause-few c = rw (c.from_reader.ensures.state, c.from_reader.ensures.source, all_left (strip_bom c.args.text.now)) (rows_count c.args.text.now)
