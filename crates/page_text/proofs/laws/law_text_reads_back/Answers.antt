use Rattle.page_text.proofs.Escaping.{reads_back}
use Rattle.page_text.proofs.laws.law_text_reads_back.Goals as goal

pub returns : goal.returns
returns c = reads_back
