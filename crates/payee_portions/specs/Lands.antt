-- Portions by territory.
use Rattle.std.specs.Prelude.{ℕ, ◌==◌, ◌<◌, ◌+◌, All, Bool, Contains, List, filter, get_or, length}
use Rattle.payee_portions.specs.Portions.{Portion}

-- a portion is of a use in a territory
abbrev pub is_in : (code : ℕ) → Portion → Bool
is_in code portion = portion.line.territory == code

abbrev pub portions_in : (code : ℕ) → List Portion → List Portion
portions_in code portions = filter (is_in code) portions

-- these are the codes of their territories, each once, from the lowest to the highest
pub record AreTerritories (portions : List Portion) (found : List ℕ) : Type 0 where
  pub rising : (k : ℕ) → k + 1 < length found → get_or found k 0 < get_or found (k + 1) 0
  pub all : All (λ portion. Contains found portion.line.territory) portions
  pub some : All (λ code. 0 < length (portions_in code portions)) found
