-- What a registry has for a work, as a look-up finds it.
use Rattle.std.specs.Prelude.{ℕ, ◌≡◌, ◌≤◌, List, Option, Some, None, length, map}
use Rattle.cwr_share.specs.Compiled.{AreAccounts, InterestsRise, IsKept, Kept, kept_lines}
use Rattle.cwr_share.specs.declared.TheConstants.{MOST_SHARE_LINES}
use Rattle.cwr_share.specs.declared.claim_line.ClaimLine.{ClaimLine}
use Rattle.cwr_share.specs.declared.registry.Work.{Work}
use Rattle.cwr_share.specs.Registered.{HasFewPayees, IsRegistered, Registered}
use Rattle.cwr_share.specs.Payees.{payee_of}
use Rattle.cwr_share.specs.Registrations.{find_work}

-- the parties of a registry, each at its number
abbrev pub names_in : Registered → List (List ℕ)
names_in registered = map (λ row. row.0) registered.payees

-- A registry has this registration of a work.
pub record LookedUp (registered : Registered) (work : List ℕ) (registration : Kept) : Type 0 where
  pub sound : IsRegistered registered
  pub accounts : List ℕ
  pub are : AreAccounts registered accounts
  pub works : find_work work registered.works ≡ Some (kept_lines (names_in registered) registration)
  pub kept : IsKept (names_in registered) accounts registration
  pub rise : InterestsRise (kept_lines (names_in registered) registration)
  pub few : length (kept_lines (names_in registered) registration) ≤ MOST_SHARE_LINES
  pub few_payees : HasFewPayees (payee_of registered.payees) (kept_lines (names_in registered) registration)

-- these are its share lines, as its claims are worked out
pub record IsFound (registered : Registered) (work : List ℕ) (lines : List ClaimLine) : Type 0 where
  pub registration : Kept
  pub up : LookedUp registered work registration
  pub exact : lines ≡ registration.lines

-- this is what a look-up of a work finds: nothing, where there is no registration of it
abbrev pub IsLookUp : Registered → List ℕ → Option Work → Type 0
IsLookUp registered work None = find_work work registered.works ≡ None
IsLookUp registered work (Some found) = IsFound registered work found.lines.now
