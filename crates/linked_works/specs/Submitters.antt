-- The names of submitters.
use Rattle.std.specs.Prelude.{ℕ, ◌≡◌, ◌≢◌, ◌≤◌, ◌<◌, ◌⊎◌, List, All, AllPairs, length, slice_index}
use Rattle.cwr_share.specs.declared.numbers.TheConstants.{MOST_SUBMITTER_BYTES}

-- a letter, a digit, `_` or `-`
abbrev pub IsNameByte : ℕ → Type 0
IsNameByte byte =
    ((65 ≤ byte) × (byte ≤ 90)) ⊎ ((97 ≤ byte) × (byte ≤ 122)) ⊎ ((48 ≤ byte) × (byte ≤ 57)) ⊎ (byte ≡ 95) ⊎ (byte ≡ 45)

-- 1 to 16 of these, with no `-` first
pub record IsSubmitter (name : List ℕ) : Type 0 where
  pub some : 0 < length name
  pub short : length name ≤ MOST_SUBMITTER_BYTES
  pub bytes : All IsNameByte name
  pub first : slice_index name 0 ≢ 45

-- names of submitters that all differ
pub record AreSubmitters (names : List (List ℕ)) : Type 0 where
  pub each : All IsSubmitter names
  pub once : AllPairs (λ name later. ¬ (name ≡ later)) names
