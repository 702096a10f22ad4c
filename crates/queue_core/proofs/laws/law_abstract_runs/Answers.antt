use Rattle.queue_core.proofs.ReceivedLemmas.{received_in_order}
use Rattle.queue_core.proofs.laws.law_abstract_runs.Goals as goal

pub returns : goal.returns
returns c = received_in_order
