use Rattle.std.proofs.Common.{◌≡◌, ◌++◌, length}
use Rattle.file_sums.specs.Shown.{seal_shown}
use Rattle.file_sums.specs.Sums.{IsSeal, text_of_seal}
use Rattle.file_sums.proofs.seal_text.read_seal.Given as goal

abbrev pub invariant-lines : goal.invariant-lines
invariant-lines l = IsSeal (seal_shown l.seal) × (l.text ≡ text_of_seal (seal_shown l.seal) ++ l.rest)

abbrev pub decreases-lines : goal.decreases-lines
decreases-lines l = length l.rest
