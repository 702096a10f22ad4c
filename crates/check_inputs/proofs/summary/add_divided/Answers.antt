use Rattle.std.proofs.Common.{append_assoc, refl}
use Rattle.check_inputs.proofs.summary.add_divided.Goals as goal

pub returns : goal.returns
returns c = rw (c.in_ok-add-3.ensures, c.in_ok-add_residue.ensures, c.in_ok-add-2.ensures, c.in_ok-add_lines.ensures, c.in_ok-add.ensures, c.in_ok-add_path.ensures) (simp (append_assoc) refl)
