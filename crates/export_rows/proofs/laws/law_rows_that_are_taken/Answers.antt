use Rattle.export_rows.proofs.Taken.{all_read, read_more}
use Rattle.export_rows.proofs.laws.law_rows_that_are_taken.Goals as goal

pub returns-clause-more : goal.returns-clause-more
returns-clause-more c = read_more

pub returns-clause-all : goal.returns-clause-all
returns-clause-all c = all_read
