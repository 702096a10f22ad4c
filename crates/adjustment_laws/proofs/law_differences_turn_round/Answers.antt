use Rattle.adjustment_laws.proofs.Turning.{turned_round}
use Rattle.adjustment_laws.proofs.law_differences_turn_round.Goals as goal

pub returns : goal.returns
returns c = turned_round
