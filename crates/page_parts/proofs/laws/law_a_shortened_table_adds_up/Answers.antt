use Rattle.page_parts.proofs.Shortening.{amounts_add_up, counts_add_up, rows_add_up}
use Rattle.page_parts.proofs.laws.law_a_shortened_table_adds_up.Goals as goal

pub returns-clause-rows : goal.returns-clause-rows
returns-clause-rows c = rows_add_up

pub returns-clause-counts : goal.returns-clause-counts
returns-clause-counts c = counts_add_up

pub returns-clause-amounts : goal.returns-clause-amounts
returns-clause-amounts c = amounts_add_up
