use Rattle.adjustment_laws.proofs.OneAdjustment.{one_text}
use Rattle.adjustment_laws.proofs.law_texts_have_one_text_of_differences.Goals as goal

pub returns : goal.returns
returns c = one_text
