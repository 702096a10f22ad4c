-- One list of share lines that stands for another.
use Rattle.std.specs.Prelude.{ℕ, ◌≡◌, ◌==◌, ◌&&◌, ◌↔◌, Bool, List, All, Any, filter, map, nat_eq, None, Option, Some}
use Rattle.std.specs.Cmp.Lexicographic.{pointwise}
use Rattle.cwr_share.specs.Payees.{payee_of}
use Rattle.cwr_share.specs.Registrations.{ShareLine}

-- the line is of the interest and party
abbrev pub is_of : (interest : ℕ) (party : List ℕ) → ShareLine → Bool
is_of interest party line = (line.interest == interest) && pointwise nat_eq line.party party

-- the line is of the interest
abbrev pub has_interest : (interest : ℕ) → ShareLine → Bool
has_interest interest line = line.interest == interest

-- a share line with another interest and party
abbrev pub as_of : (interest : ℕ) (party : List ℕ) → ShareLine → ShareLine
as_of interest party line = record {
  interest = interest;
  party = party;
  performing = line.performing;
  mechanical = line.mechanical;
  synchronisation = line.synchronisation;
  includes = line.includes;
  territory = line.territory;
}

-- Each interest and party of the lines has an interest of its own in the single list, where its lines stand in the same
-- order, under the name of its payee; and there are no others.
pub record IsOneList (pay : List ℕ → List ℕ) (lines single : List ShareLine) : Type 0 where
  pub number : ℕ → List ℕ → ℕ
  pub apart : (interest other : ℕ) (party later : List ℕ) → number interest party ≡ number other later
      → (interest ≡ other) × (party ≡ later)
  pub each : (interest : ℕ) (party : List ℕ) → filter (has_interest (number interest party)) single
      ≡ map (as_of (number interest party) (pay party)) (filter (is_of interest party) lines)
  pub all : All (λ line. Any (λ other. line.interest ≡ number other.interest other.party) lines) single

-- The works are the same, and each has one list for its share lines, whose parties are paid by rows.
pub record AreOneLists (rows : List (List ℕ × List ℕ)) (shares_of single_of : List ℕ → Option (List ShareLine))
    : Type 0 where
  pub missing : (work : List ℕ) → (shares_of work ≡ None) ↔ (single_of work ≡ None)
  pub each : (work : List ℕ) (lines single : List ShareLine) → shares_of work ≡ Some lines
      → single_of work ≡ Some single → IsOneList (payee_of rows) lines single
