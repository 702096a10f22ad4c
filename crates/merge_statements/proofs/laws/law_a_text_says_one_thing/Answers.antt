use Rattle.merge_statements.proofs.ReadBack.{one_meaning}
use Rattle.merge_statements.proofs.laws.law_a_text_says_one_thing.Goals as goal

pub returns : goal.returns
returns c = one_meaning
