-- What makes a division of an amount a fair one, in the terms of apportionment.
use Rattle.std.specs.Prelude.{ℕ, ℤ, unsigned_abs, ◌≡◌, ◌+◌, ◌*◌, ◌<◌, ◌⊎◌, All, List, map, length, sum_by, slice_index}
use Rattle.line_split.specs.Claims.{base_of, participants_of}
use Rattle.line_split.specs.LargestRemainder.{quota_of, remainder_of}
use Rattle.line_split.specs.Signs.{int_sum_by, with_sign_of}

-- the number beside the account at a place
abbrev pub value_at : List (ℕ × ℕ) → ℕ → ℕ
value_at list i = slice_index (map (λ entry. entry.1) list) i

-- Of sizes: each portion is less than a unit away from the exact share.
abbrev pub StaysWithinQuota : (amount base : ℕ) → (participants portions : List (ℕ × ℕ)) → Type 0
StaysWithinQuota amount base participants portions = (i : ℕ) → i < length participants →
    (amount * value_at participants i < base * value_at portions i + base)
    × (base * value_at portions i < amount * value_at participants i + base)

-- the participant at a place has one of the units that the quotas leave
abbrev pub HasUnit : (amount base : ℕ) → (participants portions : List (ℕ × ℕ)) → ℕ → Type 0
HasUnit amount base participants portions i = quota_of amount base (value_at participants i) < value_at portions i

-- the participant at i has the better right to a unit than the one at j: a greater remainder, or an equal one and an earlier place
abbrev pub ComesBefore : (amount base : ℕ) → List (ℕ × ℕ) → (i j : ℕ) → Type 0
ComesBefore amount base participants i j =
    let remainder : ℕ → ℕ = λ k. remainder_of amount base (value_at participants k) in
    (remainder j < remainder i) ⊎ ((remainder i ≡ remainder j) × (i < j))

-- A unit is given to nobody before one who has the better right to it.
abbrev pub GivesByRemainder : (amount base : ℕ) → (participants portions : List (ℕ × ℕ)) → Type 0
GivesByRemainder amount base participants portions = (i j : ℕ) → i < length participants → j < length participants →
    ComesBefore amount base participants i j → HasUnit amount base participants portions j → HasUnit amount base participants portions i

-- a fair division of an amount that is not negative by the claims on it
pub record IsFairSplitOfSize (amount : ℕ) (claims portions : List (ℕ × ℕ)) : Type 0 where
  pub same_accounts : map (λ portion. portion.0) portions ≡ map (λ p. p.0) (participants_of claims)
  pub adds_up : sum_by (λ portion. portion.1) portions ≡ amount
  pub within_quota : StaysWithinQuota amount (base_of claims) (participants_of claims) portions
  pub by_remainder : GivesByRemainder amount (base_of claims) (participants_of claims) portions

-- portions without their signs
abbrev pub sizes_of : List (ℕ × ℤ) → List (ℕ × ℕ)
sizes_of portions = map (λ portion. (portion.0, unsigned_abs portion.1)) portions

-- Nobody has a portion of the other sign than the amount's.
abbrev pub HaveSignOf : ℤ → List (ℕ × ℤ) → Type 0
HaveSignOf amount portions = All (λ portion. portion.1 ≡ with_sign_of amount (unsigned_abs portion.1)) portions

-- A fair division of an amount by the claims on it. The sizes of its portions divide the amount's size: so each portion is the exact share, rounded towards
-- zero or away from it, and the units left go by remainder.
pub record IsFairSplit (amount : ℤ) (claims : List (ℕ × ℕ)) (portions : List (ℕ × ℤ)) : Type 0 where
  pub adds_up : int_sum_by (λ portion. portion.1) portions ≡ amount
  pub same_sign : HaveSignOf amount portions
  pub by_size : IsFairSplitOfSize (unsigned_abs amount) claims (sizes_of portions)
