use Rattle.std.proofs.Common.{append_assoc, refl}
use Rattle.check_inputs.proofs.summary.begin_claimed_over.Goals as goal

pub returns : goal.returns
returns c = rw (c.in_ok-add_lines.ensures, c.in_ok-add_around.ensures, c.in_ok-add_path.ensures) (simp (append_assoc) refl)
