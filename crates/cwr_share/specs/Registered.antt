-- What a registry has: the share lines of the registrations in force, their parties with their payees, and the accounts of these.
use Rattle.std.specs.Prelude.{ℕ, ◌≡◌, ◌≤◌, ◌<◌, ◌∷◌, ◌↔◌, List, All, Contains, [], length, map}
use Rattle.std.specs.List.{AllPairs}
use Rattle.std.specs.List.Sorted.{IsStrictlySortedBy}
use Rattle.std.specs.Cmp.Lexicographic.{slice_cmp}
use Rattle.std.specs.Ordering.{nat_cmp}
use Rattle.line_split.specs.declared.TheConstants.{FULL_SHARE, MOST_CLAIMS}
use Rattle.csv_table.specs.declared.forms.TheConstants.{MOST_CODE}
use Rattle.cwr_share.specs.declared.TheConstants.{MOST_ACCOUNTS, MOST_SHARE_LINES}
use Rattle.cwr_share.specs.Payees.{HasRow, IsPayeeIn, payee_of}
use Rattle.cwr_share.specs.Registrations.{ShareLine}

pub record Registered : Type 0 where
  -- in any order, each with its share lines in the order of the file
  pub works : List (List ℕ × List ShareLine)
  -- each of their parties with its payee, in any order
  pub payees : List (List ℕ × List ℕ)
  -- the payee of each account, where the residue has an empty text
  pub accounts : List (List ℕ)

-- a share line in its limits
pub record IsShareLine (line : ShareLine) : Type 0 where
  pub party : 0 < length line.party
  pub performing : line.performing ≤ FULL_SHARE
  pub mechanical : line.mechanical ≤ FULL_SHARE
  pub synchronisation : line.synchronisation ≤ FULL_SHARE
  pub territory : (0 < line.territory) × (line.territory ≤ MOST_CODE)

-- The parties of some share lines are paid to 256 payees at most, whatever they claim.
abbrev pub HasFewPayees : (pay : List ℕ → List ℕ) → List ShareLine → Type 0
HasFewPayees pay lines =
    (payees : List (List ℕ)) × (length payees ≤ MOST_CLAIMS) × All (λ line. Contains payees (pay line.party)) lines

-- the party of a share line of one of the works
abbrev pub IsPartyOf : List (List ℕ × List ShareLine) → List ℕ → Type 0
IsPartyOf works party = (work : List ℕ) × (lines : List ShareLine) × Contains works (work, lines) × Contains (map (λ line. line.party) lines) party

-- what every registry keeps to
pub record IsRegistered (registered : Registered) : Type 0 where
  pub once : AllPairs (λ entry later. ¬ (entry.0 ≡ later.0)) registered.works
  pub few : All (λ entry. length entry.1 ≤ MOST_SHARE_LINES) registered.works
  pub few_payees : All (λ entry. HasFewPayees (payee_of registered.payees) entry.1) registered.works
  pub shares : All (λ entry. All IsShareLine entry.1) registered.works
  -- each party of the works has one payee
  pub one_payee : AllPairs (λ row later. ¬ (row.0 ≡ later.0)) registered.payees
  pub in_force : (party : List ℕ) → HasRow registered.payees party ↔ IsPartyOf registered.works party
  -- the names of the payees
  pub names : List (List ℕ)
  pub accounts : registered.accounts ≡ [] ∷ names
  pub few_names : length names ≤ MOST_ACCOUNTS
  -- each once and in byte order, in which the empty text comes first
  pub rising : IsStrictlySortedBy (slice_cmp nat_cmp) registered.accounts
  pub exact : (payee : List ℕ) → Contains names payee ↔ IsPayeeIn registered.payees payee
