-- When a list of claims is refused, and for what.
use Rattle.std.specs.Prelude.{ℕ, ◌≡◌, ◌≤◌, ◌<◌, List, length, Option, Some, None, slice_index_or}
use Rattle.line_split.specs.FirstPlace.{IsFirstPlace}
use Rattle.line_split.specs.declared.TheConstants.{MOST_CLAIMS, FULL_SHARE}
use Rattle.line_split.specs.declared.claims.ClaimFault.{ClaimFault}
use Rattle.line_split.specs.declared.claims.ClaimFault.TheVariants.{Share, Twice, Many, Memory}

-- the claim at i is over 100.00 per cent
abbrev pub IsOver : List (ℕ × ℕ) → ℕ → Type 0
IsOver list i = (i < length list) × (FULL_SHARE < (slice_index_or list i (0, 0)).1)

-- the account at i stands at an earlier place too
abbrev pub StandsBefore : List (ℕ × ℕ) → ℕ → Type 0
StandsBefore list i = (i < length list)
    × ((j : ℕ) × (j < i) × ((slice_index_or list j (0, 0)).0 ≡ (slice_index_or list i (0, 0)).0))

-- What a list is refused for: too many claims come first, then the first claim that is too large, then the first account that came before. Memory is asked for after that.
abbrev pub IsFaultOf : List (ℕ × ℕ) → ClaimFault → Type 0
IsFaultOf list Many = MOST_CLAIMS < length list
IsFaultOf list (Share place) = (length list ≤ MOST_CLAIMS) × IsFirstPlace (IsOver list) place
IsFaultOf list (Twice place) = (length list ≤ MOST_CLAIMS) × ((i : ℕ) → ¬ IsOver list i) × IsFirstPlace (StandsBefore list) place
IsFaultOf list Memory = (length list ≤ MOST_CLAIMS) × ((i : ℕ) → ¬ IsOver list i) × ((i : ℕ) → ¬ StandsBefore list i)

-- the fault's number
abbrev pub number_of_fault : ClaimFault → ℕ
number_of_fault (Share place) = 1
number_of_fault (Twice place) = 2
number_of_fault Many = 3
number_of_fault Memory = 4

-- the claim's place, where the fault is one claim's
abbrev pub place_of_fault : ClaimFault → Option ℕ
place_of_fault (Share place) = Some place
place_of_fault (Twice place) = Some place
place_of_fault Many = None
place_of_fault Memory = None
