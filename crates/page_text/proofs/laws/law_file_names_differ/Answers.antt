use Rattle.page_text.proofs.Naming.{names_differ}
use Rattle.page_text.proofs.laws.law_file_names_differ.Goals as goal

pub returns : goal.returns
returns c = names_differ
