-- Where the step was due the table's lemma holds, and otherwise nothing changed.
use Rattle.std.proofs.Common.{arith}
use Rattle.queue_core.proofs.PoolStepsKeep.{keeps_stepped}
use Rattle.queue_core.proofs.pool.PoolCore.step.Goals as goal

pub invariant_of-self : goal.invariant_of-self
invariant_of-self c =
    keeps_stepped c.step_in.result c.self.inside.state c.step_in.new.self c.args.step.mailbox c.args.step.step c.self.invariant (omega (arith, c.if-step-mailboxes.true, c.mailboxes.ensures)) c.step_in.ensures.moved c.step_in.ensures.not_now
