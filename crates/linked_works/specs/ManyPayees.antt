-- What links are refused for, by the registrations in force and the payees of their parties.
use Rattle.std.specs.Prelude.{ℕ, ◌≡◌, ◌<◌, ◌+◌, ◌++◌, ◌∷◌, [], List, All, AllPairs, Contains, length, map, Some, ⊤}
use Rattle.cwr_share.specs.Payees.{payee_of}
use Rattle.cwr_share.specs.Registered.{HasFewPayees}
use Rattle.cwr_share.specs.RegistryOf.{HasTooManyPayees}
use Rattle.cwr_share.specs.Registrations.{ShareLine}
use Rattle.linked_works.specs.Linked.{Finds, Link, shares_linked}
use Rattle.linked_works.specs.declared.works_fault.WorksFault.{WorksFault}
use Rattle.linked_works.specs.declared.works_fault.WorksFault.TheVariants.{Many, Accounts, Memory}

-- the parties of share lines have more than 256 payees, whatever these claim
pub record HasManyPayees (pay : List ℕ → List ℕ) (lines : List ShareLine) : Type 0 where
  pub payees : List (List ℕ)
  pub apart : AllPairs (λ payee later. ¬ (payee ≡ later)) payees
  pub each : All (Contains (map (λ line. pay line.party) lines)) payees
  pub many : 256 < length payees

-- those of each work that links name have at most 256
abbrev pub HaveFewPayees : (pay : List ℕ → List ℕ) → Finds → List Link → Type 0
HaveFewPayees pay finds links =
    (work : List ℕ) (shares : List ShareLine) → shares_linked finds links work ≡ Some shares → HasFewPayees pay shares

-- those of some work have more
abbrev pub SomeHasMany : (pay : List ℕ → List ℕ) → Finds → List Link → Type 0
SomeHasMany pay finds links =
    (work : List ℕ) × (shares : List ShareLine) × (shares_linked finds links work ≡ Some shares)
    × HasManyPayees pay shares

-- With the link at a place the parties of its work have more than 256 payees; with those before it those of no work
-- have.
pub record IsFirstMany (pay : List ℕ → List ℕ) (finds : Finds) (links : List Link) (place : ℕ) : Type 0 where
  pub before : List Link
  pub link : Link
  pub after : List Link
  pub split : links ≡ before ++ link ∷ after
  pub place_of : length before ≡ place
  pub few : HaveFewPayees pay finds before
  pub shares : List ShareLine
  pub are : shares_linked finds (before ++ link ∷ []) link.work ≡ Some shares
  pub many : HasManyPayees pay shares

-- What a table of works is refused for by the registrations in force, with the rows of a table of payees: the first
-- row, which count from 1, with which a work has too many payees; or else too many payees of all works. Memory may run
-- out at any time.
abbrev pub IsFaultOfLinks : (rows : List (List ℕ × List ℕ)) → Finds → List Link → WorksFault → Type 0
IsFaultOfLinks rows finds links (Many row) =
    (place : ℕ) × (row ≡ place + 1) × IsFirstMany (payee_of rows) finds links place
IsFaultOfLinks rows finds links Accounts =
    HaveFewPayees (payee_of rows) finds links × HasTooManyPayees rows (shares_linked finds links)
IsFaultOfLinks rows finds links Memory = ⊤
IsFaultOfLinks rows finds links _ = ⊥
