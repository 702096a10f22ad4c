use Rattle.std.proofs.Common.{append_assoc, refl}
use Rattle.check_inputs.proofs.summary.add_claimed_over_work.Goals as goal

pub returns : goal.returns
returns c = rw (c.in_ok-add.ensures, c.in_ok-begin_claimed_over.ensures) (simp (append_assoc) refl)
