use Rattle.block_draw.proofs.Gathers.{none_is_left}
use Rattle.block_draw.proofs.laws.law_none_is_left.Goals as goal

pub returns : goal.returns
returns c = none_is_left
