-- The steps of the division, as the code takes them.
use Rattle.std.specs.Prelude.{ℕ, ℤ, unsigned_abs, ◌≡◌, ◌<◌, ◌+ℤ◌, ◌-◌, ◌/◌, ◌%◌, Bool, List, if◌then◌else◌, length, map, nat_lt, slice_index_or}
use Rattle.line_split.specs.declared.contender.Contender.{Contender}
use Rattle.line_split.specs.declared.contender.TheConstants.{PLACES}
use Rattle.line_split.specs.LargestRemainder.{quota_of, rank_of}
use Rattle.line_split.specs.Signs.{signed_entry, with_sign_of}

-- a contender's place among the participants
abbrev pub place_of : Contender → ℕ
place_of contender = PLACES - 1 - contender.precedence.0 % PLACES

-- a contender's place and remainder
abbrev pub place_and_remainder : Contender → ℕ × ℕ
place_and_remainder contender = (place_of contender, contender.precedence.0 / PLACES)

-- a participant's account and its quota, with the amount's sign
abbrev pub signed_quota : (amount : ℤ) (base : ℕ) → ℕ × ℕ → ℕ × ℤ
signed_quota amount base participant = signed_entry amount (participant.0, quota_of (unsigned_abs amount) base participant.1)

-- an account's portion, with a unit more of the amount's sign where it gets one
abbrev pub with_unit : ℤ → Bool → ℕ × ℤ → ℕ × ℤ
with_unit amount gets portion = (portion.0, portion.1 +ℤ with_sign_of amount (if gets then 1 else 0))

-- each portion has such a unit more where fewer contenders come before its own than units are left
abbrev pub GivesUnits : (amount : ℤ) (left : ℕ) → List Contender → (list given : List (ℕ × ℤ)) → Type 0
GivesUnits amount left contenders list given = (k : ℕ) (d : ℕ × ℕ) (e : ℕ × ℤ) → k < length list → slice_index_or given k e
    ≡ with_unit amount (nat_lt (rank_of (map place_and_remainder contenders) (slice_index_or (map place_and_remainder contenders) k d)) left) (slice_index_or list k e)
