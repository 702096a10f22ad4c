use Rattle.page_text.proofs.Escaping.{escaped_opens_nothing}
use Rattle.page_text.proofs.laws.law_text_opens_nothing.Goals as goal

pub returns : goal.returns
returns c = escaped_opens_nothing
