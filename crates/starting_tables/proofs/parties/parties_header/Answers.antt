use Rattle.std.proofs.Common.{refl}
use Rattle.csv.specs.Writing.{escaped, fields_text, is_blank}
use Rattle.starting_tables.proofs.parties.parties_header.Goals as goal

pub returns-clause-header : goal.returns-clause-header
unfolding escaped fields_text is_blank
returns-clause-header c = refl
