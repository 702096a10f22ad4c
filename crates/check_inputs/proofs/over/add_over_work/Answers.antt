use Rattle.std.proofs.Common.{◌++◌, [], ℕ, List, append_assoc, codes, refl}
use Rattle.check_inputs.proofs.over.add_over_work.Goals as goal

pub returns : goal.returns
returns c = rw (c.in_ok-add.ensures, c.in_ok-add_who_claims.ensures, c.in_ok-begin_claimed_over.ensures) (simp (append_assoc) (refl {A = List ℕ}))
