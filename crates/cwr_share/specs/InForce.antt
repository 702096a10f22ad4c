-- Works with the share lines that are in force, as they are gathered.
use Rattle.std.specs.Prelude.{ℕ, ◌≡◌, ◌≤◌, List, All, length, map, zip, Some, Vec}
use Rattle.std.specs.declared.alloc.Global.{Global}
use Rattle.cwr_share.specs.Compiled.{AreWorkNames, InterestsRise, WorkName}
use Rattle.cwr_share.specs.Registered.{IsShareLine}
use Rattle.cwr_share.specs.Registrations.{ShareLine, find_work, shares_in_force}
use Rattle.cwr_share.specs.declared.TheConstants.{MOST_SHARES}
use Rattle.cwr_share.specs.declared.numbers.TheConstants.{MOST_PARTY_BYTES}

-- each work with its share lines
abbrev pub works_of : List WorkName → List (Vec ShareLine Global) → List (List ℕ × List ShareLine)
works_of works lists = map (λ entry. (entry.0.items, entry.1.items)) (zip works lists)

-- the share lines of one work
pub record AreShareLines (lines : List ShareLine) : Type 0 where
  pub sound : All IsShareLine lines
  pub rise : InterestsRise lines

-- each work has one list of share lines
pub record IsTable (works : List WorkName) (lists : List (Vec ShareLine Global)) : Type 0 where
  pub paired : length works ≡ length lists
  pub short : AreWorkNames works
  pub each : All (λ lines. AreShareLines lines.items) lists

-- they are as few as one registration has, and their parties have no more bytes than the field of a party number
pub record IsOneRegistration (lines : List ShareLine) : Type 0 where
  pub few : length lines ≤ MOST_SHARES
  pub parties : All (λ line. length line.party ≤ MOST_PARTY_BYTES) lines

-- the works are those in force after these lines of a file
pub record HasInForce (lines : List (List ℕ)) (works : List (List ℕ × List ShareLine)) : Type 0 where
  pub in_force : (work : List ℕ) → find_work work works ≡ shares_in_force lines work
  pub each : (work : List ℕ) (shares : List ShareLine) → find_work work works ≡ Some shares → IsOneRegistration shares
