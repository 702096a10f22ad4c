use Rattle.page_text.proofs.Seeing.{plain_shown}
use Rattle.page_text.proofs.laws.law_plain_text_is_shown_as_it_is.Goals as goal

pub returns : goal.returns
returns c = plain_shown
