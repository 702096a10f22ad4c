-- What is kept while lines are compared with earlier ones. Contracts of private functions alone cite it, and no
-- promise rests on it.
use Rattle.std.specs.Prelude.{ℕ, ◌≡◌, ◌<◌, ◌+◌, ◌*◌, ◌%◌, ◌^◌, ◌∷◌, [], Bool, List, length, slice_index_or, take}
use Rattle.std.specs.Int.{cast_unsigned, to_le_bytes, w16, w64}
use Rattle.std.specs.List.{All, Contains}
use Rattle.std.specs.List.Sorted.{IsStrictlyIncreasing}
use Rattle.cwr_share.specs.PassedOver.{numbers_of}
use Rattle.line_split.specs.UsageLine.{UsageLine}
use Rattle.usage_totals.specs.Repeats.{is_repeated}
use Rattle.usage_totals.specs.SoFar.{hash_by, line_at}

-- a hash of a line
unfoldable pub hash_of : UsageLine → ℕ
hash_of line =
    hash_by (line.usage ∷ line.work ∷ to_le_bytes w16 line.territory
    ∷ to_le_bytes w64 (cast_unsigned w64 line.amount) ∷ [])

-- the place that stands below a hash
abbrev pub place_in : ℕ → ℕ
place_in hashed = hashed % 2 ^ 32

-- a place, below a hash of its line
abbrev pub hashed_at : List UsageLine → ℕ → ℕ
hashed_at lines place = hash_of (line_at lines place) * 2 ^ 32 + place

-- the places of all lines, each once and below a hash of its line, in order
pub record AreInOrderOfHash (lines : List UsageLine) (order : List ℕ) : Type 0 where
  pub within : All (λ hashed. place_in hashed < length lines) order
  pub each : All (λ hashed. hashed ≡ hashed_at lines (place_in hashed)) order
  pub all : (place : ℕ) → place < length lines → Contains order (hashed_at lines place)
  pub rise : IsStrictlyIncreasing order

-- the line at a place is the same as an earlier one
abbrev pub is_repeated_at : List UsageLine → ℕ → Bool
is_repeated_at lines place = is_repeated (take place lines) (line_at lines place)

-- whether each line is the same as an earlier one
pub record AreMarks (lines : List UsageLine) (marks : List Bool) : Type 0 where
  pub long : length marks ≡ length lines
  pub each : (place : ℕ) (d : Bool) → place < length lines → slice_index_or marks place d ≡ is_repeated_at lines place

-- the rows of the lines that are marked
abbrev pub rows_marked : List Bool → List ℕ
rows_marked marks = numbers_of (λ _ is_marked. is_marked) marks
