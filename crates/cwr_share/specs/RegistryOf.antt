-- What a registry is made of: the share lines of each work, and a table of payees.
use Rattle.std.specs.Prelude.{ℕ, ◌≡◌, ◌<◌, List, All, Contains, length, map, Option, Some}
use Rattle.std.specs.List.Sorted.{IsStrictlySortedBy}
use Rattle.std.specs.Cmp.Lexicographic.{slice_cmp}
use Rattle.std.specs.Ordering.{nat_cmp}
use Rattle.cwr_share.specs.Payees.{payee_of}
use Rattle.cwr_share.specs.Registered.{Registered}
use Rattle.cwr_share.specs.Registrations.{ShareLine, find_work}
use Rattle.cwr_share.specs.declared.TheConstants.{MOST_ACCOUNTS}

-- A work has these share lines, where it is registered; and what a party of them claims is paid by the rows of a table
-- of payees.
pub record IsRegistryOf (rows : List (List ℕ × List ℕ)) (shares_of : List ℕ → Option (List ShareLine))
    (registered : Registered) : Type 0 where
  pub in_force : (work : List ℕ) → find_work work registered.works ≡ shares_of work
  pub paid : All (λ row. row.1 ≡ payee_of rows row.0) registered.payees

-- the party of a share line of some work
abbrev pub IsPartyAmong : (shares_of : List ℕ → Option (List ShareLine)) → List ℕ → Type 0
IsPartyAmong shares_of party =
    (work : List ℕ) × (shares : List ShareLine) × (shares_of work ≡ Some shares)
    × Contains (map (λ share. share.party) shares) party

-- the payee of such a party
abbrev pub IsPayeeAmong : List (List ℕ × List ℕ) → (shares_of : List ℕ → Option (List ShareLine)) → List ℕ → Type 0
IsPayeeAmong rows shares_of payee =
    (work : List ℕ) × (shares : List ShareLine) × (shares_of work ≡ Some shares)
    × Contains (map (λ share. payee_of rows share.party) shares) payee

-- the parties have too many payees, each counted once
pub record HasTooManyPayees (rows : List (List ℕ × List ℕ)) (shares_of : List ℕ → Option (List ShareLine)) : Type 0 where
  pub payees : List (List ℕ)
  pub rising : IsStrictlySortedBy (slice_cmp nat_cmp) payees
  pub each : All (IsPayeeAmong rows shares_of) payees
  pub many : MOST_ACCOUNTS < length payees
