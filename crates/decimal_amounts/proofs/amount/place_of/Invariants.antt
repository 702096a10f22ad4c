use Rattle.std.proofs.Common.{◌≡◌, ℕ, ◌<◌, get_or}
use Rattle.decimal_amounts.proofs.amount.place_of.Given as goal

-- no byte before this place is the one that is sought
abbrev pub invariant-loop-place : goal.invariant-loop-place
invariant-loop-place l = (k : ℕ) → k < l.place → ¬ (get_or l.text k 0 ≡ l.sought)
