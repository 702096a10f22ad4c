-- Which blocks were drawn, by whom and how often.
use Rattle.std.specs.Prelude.{ℕ, ◌≡◌, ◌+◌, ◌==◌, ◌∷◌, [], List, cond, nat_lt, suc, zero}

-- how often a block stands in a list
abbrev pub times_drawn : ℕ → List ℕ → ℕ
times_drawn block [] = 0
times_drawn block (other ∷ others) = cond (block == other) 1 0 + times_drawn block others

-- the sum over the first so many numbers
abbrev pub sum_below : ℕ → (ℕ → ℕ) → ℕ
sum_below zero each = 0
sum_below (suc n) each = sum_below n each + each n

-- so many drawers have each of so many blocks once, and no other
abbrev pub AreDrawnOnce : ℕ → (ℕ → List ℕ) → ℕ → Type 0
AreDrawnOnce drawers drawn blocks = (block : ℕ) → sum_below drawers (λ drawer. times_drawn block (drawn drawer)) ≡ cond (nat_lt block blocks) 1 0
