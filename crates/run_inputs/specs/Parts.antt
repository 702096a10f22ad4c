-- Into how many parts a list of usage lines is cut.
use Rattle.std.specs.Prelude.{ℕ, ◌≡◌, ◌≤◌, ◌<◌, ◌+◌, ◌*◌, ◌^◌, ◌⊎◌}

-- so many parts have a thread each, and 64 KB each on average
abbrev pub AreWorthwhile : (threads bytes parts : ℕ) → Type 0
AreWorthwhile threads bytes parts = parts ≤ threads × parts * 65536 ≤ bytes

-- a list of so many bytes is cut in two so often, each part again: not at all, or into no more parts than are
-- worthwhile; and once more would be too often, or would make more than 8 parts
pub record AreHalvings (threads bytes halvings : ℕ) : Type 0 where
  pub few : halvings ≤ 3
  pub worthwhile : halvings ≡ 0 ⊎ AreWorthwhile threads bytes (2 ^ halvings)
  pub most : halvings ≡ 3 ⊎ ¬ AreWorthwhile threads bytes (2 ^ (halvings + 1))
