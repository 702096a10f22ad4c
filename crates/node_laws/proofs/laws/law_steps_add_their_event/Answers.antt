use Rattle.node_laws.proofs.Steps.{each_step, no_join, no_look, no_split}
use Rattle.node_laws.proofs.laws.law_steps_add_their_event.Goals as goal

pub returns-clause-steps : goal.returns-clause-steps
returns-clause-steps c = each_step

pub returns-clause-looks : goal.returns-clause-looks
returns-clause-looks c = no_look

pub returns-clause-splits : goal.returns-clause-splits
returns-clause-splits c = no_split

pub returns-clause-joins : goal.returns-clause-joins
returns-clause-joins c = no_join
