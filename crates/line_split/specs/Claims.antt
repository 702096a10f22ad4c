-- The claims on one usage line: pairs of an account and its claim in hundredths of a per cent.
use Rattle.std.specs.Prelude.{ℕ, ◌≤◌, ◌<◌, List, [], ◌∷◌, ◌++◌, map, length, All, sum_by, max, ◌-◌, if◌then◌else◌, nat_le}
use Rattle.std.specs.List.Sorted.{IsStrictlyIncreasing}
use Rattle.line_split.specs.declared.TheConstants.{RESIDUE, MOST_CLAIMS, MOST_CLAIMED, FULL_SHARE}

-- at most 256 claims, in order of account, none of them the residue's and none over 100.06 per cent
pub record AreClaims (claims : List (ℕ × ℕ)) : Type 0 where
  pub few : length claims ≤ MOST_CLAIMS
  pub rising : IsStrictlyIncreasing (map (λ claim. claim.0) claims)
  pub payees : All (λ claim. RESIDUE < claim.0) claims
  pub shares : All (λ claim. claim.1 ≤ MOST_CLAIMED) claims

-- what the claims come to
abbrev pub total_of : List (ℕ × ℕ) → ℕ
total_of claims = sum_by (λ claim. claim.1) claims

-- Claims that come to more than 100.06 per cent count as nothing, each of them.
abbrev pub counted_claims : List (ℕ × ℕ) → List (ℕ × ℕ)
counted_claims claims = if nat_le (total_of claims) MOST_CLAIMED then claims else map (λ claim. (claim.0, 0)) claims

-- what a share is a share of: 100.00 per cent, or what the claims come to where that is more
abbrev pub base_of : List (ℕ × ℕ) → ℕ
base_of claims = max FULL_SHARE (total_of (counted_claims claims))

-- who takes part, with its share of the base: each claim's account, and last the residue, which has what nobody claims
abbrev pub participants_of : List (ℕ × ℕ) → List (ℕ × ℕ)
participants_of claims = counted_claims claims ++ (RESIDUE, base_of claims - total_of (counted_claims claims)) ∷ []
