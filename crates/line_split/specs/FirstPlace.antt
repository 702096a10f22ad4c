use Rattle.std.specs.Prelude.{ℕ, ◌≡◌, ◌<◌, ◌+◌}

-- the first place, counted from 1, at which a fact holds
pub record IsFirstPlace (HoldsAt : ℕ → Type 0) (place : ℕ) : Type 0 where
  pub here : (i : ℕ) → i + 1 ≡ place → HoldsAt i
  pub none_before : (i : ℕ) → i + 1 < place → ¬ HoldsAt i
  pub from_one : 0 < place
