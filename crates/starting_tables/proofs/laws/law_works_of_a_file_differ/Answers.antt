use Rattle.starting_tables.proofs.NameLemmas.{works_apart}
use Rattle.starting_tables.proofs.laws.law_works_of_a_file_differ.Goals as goal

pub returns : goal.returns
returns c = works_apart
