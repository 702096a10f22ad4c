use Rattle.std.proofs.Common.{List, append_assoc, refl, ℕ}
use Rattle.check_inputs.proofs.summary.add_territory.Goals as goal

pub returns : goal.returns
returns c =
    let number = rw c.from.ensures at c.in_ok-add_number.ensures in
    rw (c.in_ok-add-3.ensures, c.in_ok-add_lines.ensures, c.in_ok-add-2.ensures, number, c.in_ok-add.ensures, c.in_ok-add_path.ensures) (simp (append_assoc) (refl {A = List ℕ}))
