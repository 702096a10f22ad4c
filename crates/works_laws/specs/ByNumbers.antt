-- One submitter, whose registrations are each of the work that goes by the registration's own number.
use Rattle.std.specs.Prelude.{ℕ, ◌≡◌, List, All, AllPairs, Any, Some}
use Rattle.cwr_share.specs.CwrFile.{IsPartyInForce}
use Rattle.cwr_share.specs.Joined.{qualified}
use Rattle.cwr_share.specs.Payees.{payee_of}
use Rattle.cwr_share.specs.Registrations.{ShareLine, shares_in_force}
use Rattle.linked_works.specs.Linked.{Link}

-- The links are of registrations of the submitter, each of the work with its number; a number has one link, and the
-- number of each registration in force has one.
pub record IsByNumbers (name : List ℕ) (lines : List (List ℕ)) (links : List Link) : Type 0 where
  pub each : All (λ link. (link.work ≡ link.number) × (link.submitter ≡ name)) links
  pub once : AllPairs (λ link later. ¬ (link.number ≡ later.number)) links
  pub all : (number : List ℕ) (shares : List ShareLine) → shares_in_force lines number ≡ Some shares
      → Any (λ link. link.number ≡ number) links

-- By the one table a party in force has the same payee under its own name as by the other under its submitter's.
pub record ArePaidAsIn (name : List ℕ) (lines : List (List ℕ)) (rows named : List (List ℕ × List ℕ)) : Type 0 where
  pub each : (party : List ℕ) → IsPartyInForce lines party
      → payee_of named (qualified name party) ≡ payee_of rows party
