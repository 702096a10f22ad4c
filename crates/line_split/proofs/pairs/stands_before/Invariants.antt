use Rattle.std.proofs.Common.{◌≡◌, ℕ, ◌<◌, get_or}
use Rattle.line_split.proofs.pairs.stands_before.Given as goal

-- none of the earlier places so far has the account
abbrev pub invariant-loop-earlier : goal.invariant-loop-earlier
invariant-loop-earlier l = (j : ℕ) → j < l.earlier → (get_or l.list j (0, 0)).0 ≡ (get_or l.list l.place (0, 0)).0 → ⊥
