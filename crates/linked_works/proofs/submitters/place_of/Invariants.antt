use Rattle.std.proofs.Common.{◌≡◌, ◌<◌, [], ℕ, get_or}
use Rattle.linked_works.specs.Rows.{names_by}
use Rattle.linked_works.proofs.submitters.place_of.Given as goal

abbrev pub invariant-loop-place : goal.invariant-loop-place
invariant-loop-place l = (k : ℕ) → k < l.place → ¬ (get_or (names_by l.names) k [] ≡ l.name)
