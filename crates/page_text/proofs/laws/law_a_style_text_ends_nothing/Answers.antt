use Rattle.page_text.proofs.Styling.{styled_ends_nothing}
use Rattle.page_text.proofs.laws.law_a_style_text_ends_nothing.Goals as goal

pub returns : goal.returns
returns c = styled_ends_nothing
