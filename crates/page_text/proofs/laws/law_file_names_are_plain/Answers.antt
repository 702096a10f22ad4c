use Rattle.page_text.proofs.Naming.{names_plain, slug_short}
use Rattle.page_text.proofs.laws.law_file_names_are_plain.Goals as goal

pub returns-clause-bytes : goal.returns-clause-bytes
returns-clause-bytes c = names_plain

pub returns-clause-short : goal.returns-clause-short
returns-clause-short c = slug_short
