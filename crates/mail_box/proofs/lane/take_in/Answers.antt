use Rattle.std.proofs.Common.{ap}
use Rattle.mail_box.proofs.Relays.{learns, takes_in}
use Rattle.mail_box.proofs.lane.take_in.Goals as goal

pub absorb-requires-clause-rule : goal.absorb-requires-clause-rule
absorb-requires-clause-rule c = takes_in _ _ _ _ c.requires.roles.0 c.requires.roles.1

pub learn_as-requires-clause-rule : goal.learn_as-requires-clause-rule
learn_as-requires-clause-rule c = learns _ _ (ap (λ v. v.takes) c.absorb.ensures.rule)
