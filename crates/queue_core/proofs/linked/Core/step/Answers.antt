-- Where the step was due the table's lemma holds, and otherwise nothing changed.
use Rattle.std.proofs.Common.{arith}
use Rattle.queue_core.proofs.PoolStepsKeep.{keeps_stepped}
use Rattle.queue_core.proofs.PoolShape.{mailboxes_kept}
use Rattle.queue_core.proofs.linked.Core.step.Goals as goal

pub invariant_of-self : goal.invariant_of-self
invariant_of-self c = (
  keeps_stepped c.step_in.result c.self.inside.state c.step_in.new.self 0 c.args.step c.self.invariant.0 (omega (arith, c.self.invariant.1)) c.step_in.ensures.moved c.step_in.ensures.not_now,
  mailboxes_kept c.step_in.result c.self.inside.state c.step_in.new.self 0 c.args.step c.self.invariant.1 c.step_in.ensures.moved c.step_in.ensures.not_now,
)
