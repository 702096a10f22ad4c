use Rattle.std.specs.Prelude.{ℕ, List}

-- a list of accounts, each with its number, and for how many there is room
pub record WithRoom (Number : Type 0) : Type 0 where
  pub list : List (ℕ × Number)
  pub room : ℕ
