-- Who is paid what a party claims.
use Rattle.std.specs.Prelude.{ℕ, ◌≤◌, ◌<◌, List, All, Contains, length, map, nat_eq}
use Rattle.std.specs.List.{find}
use Rattle.std.specs.Option.{option_map_or}
use Rattle.std.specs.Cmp.Lexicographic.{pointwise}
use Rattle.cwr_share.specs.declared.payees.TheConstants.{MOST_NAME_BYTES}

-- the payee of a party: that of its row, or else the party itself. A payee is not looked up again.
abbrev pub payee_of : List (List ℕ × List ℕ) → (party : List ℕ) → List ℕ
payee_of payees party = option_map_or (λ row. row.1) (find (λ row. pointwise nat_eq row.0 party) payees) party

-- the party has a row
abbrev pub HasRow : List (List ℕ × List ℕ) → (party : List ℕ) → Type 0
HasRow payees party = Contains (map (λ row. row.0) payees) party

-- the name is the payee of a row
abbrev pub IsPayeeIn : List (List ℕ × List ℕ) → (payee : List ℕ) → Type 0
IsPayeeIn payees payee = Contains (map (λ row. row.1) payees) payee

-- the length of a name in a table
abbrev pub IsName : List ℕ → Type 0
IsName text = (0 < length text) × (length text ≤ MOST_NAME_BYTES)

-- a table has names in both of its columns; that of a party may be long
abbrev pub AreNames : List (List ℕ × List ℕ) → Type 0
AreNames payees = All (λ row. (0 < length row.0) × IsName row.1) payees
