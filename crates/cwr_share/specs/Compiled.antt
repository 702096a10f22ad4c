-- How a registration is kept, so that its claims take one look at each of its share lines.
use Rattle.std.specs.Prelude.{◌*◌, ◌-◌, ℕ, ⊤, ◌≡◌, ◌≤◌, ◌<◌, ◌+◌, ◌++◌, ◌==◌, ◌∷◌, [], Bool, List, Vec, All, AllPairs, Contains, false, true, not, if◌then◌else◌}
use Rattle.std.specs.Prelude.{drop, filter, flat_map, length, map, nat_eq, nat_lt, reverse, slice_index_or, sum_by, take, zip}
use Rattle.std.specs.List.{list_any}
use Rattle.std.specs.Cmp.Lexicographic.{pointwise}
use Rattle.line_split.specs.declared.TheConstants.{MOST_CLAIMS}
use Rattle.line_split.specs.declared.usage.Right.{Right}
use Rattle.line_split.specs.declared.usage.Right.TheVariants.{P, M, S}
use Rattle.cwr_share.specs.ClaimsOn.{deciding, is_alike, share_for}
use Rattle.cwr_share.specs.Registrations.{ShareLine}
use Rattle.cwr_share.specs.declared.registration.Placed.{Placed}
use Rattle.cwr_share.specs.declared.claim_line.ClaimLine.{ClaimLine}
use Rattle.cwr_share.specs.declared.registration.CompiledRegistration.{CompiledRegistration}
use Rattle.cwr_share.specs.declared.registrations.Extent.{Extent}
use Rattle.cwr_share.specs.declared.share_line.RegisteredShare.{RegisteredShare}
use Rattle.cwr_share.specs.Registered.{Registered}
use Rattle.std.specs.declared.alloc.Global.{Global}
use Rattle.cwr_share.specs.declared.numbers.TheConstants.{MOST_PARTY_NAME_BYTES, MOST_WORK_NAME_BYTES}
use Rattle.arrayvec.specs.ArrayVec.{ArrayVec}

-- the name that a work is found by
abbrev pub WorkName : Type 0
WorkName = ArrayVec ℕ

-- they are no longer than a usage line may name a work
abbrev pub AreWorkNames : List WorkName → Type 0
AreWorkNames works = All (λ work. length work.items ≤ MOST_WORK_NAME_BYTES) works

-- a kept share line, where these are the parties by number
abbrev pub line_by : List (List ℕ) → RegisteredShare → ShareLine
line_by parties share = record {
  interest = share.interest;
  party = slice_index_or parties share.party [];
  performing = share.shares.performing;
  mechanical = share.shares.mechanical;
  synchronisation = share.shares.synchronisation;
  includes = share.includes;
  territory = share.territory;
}

-- a registration as it is kept: its share lines, in the order of the file; and the same again, as its claims are worked out
pub record Kept : Type 0 where
  pub shares : List RegisteredShare
  pub lines : List ClaimLine

-- one that stands alone
abbrev pub whole : CompiledRegistration → Kept
whole registration = record { shares = registration.shares.items; lines = registration.lines.items }

-- one that stands among others, in an extent
abbrev pub part : List ClaimLine → Extent → Kept
part lines extent = record {
  shares = extent.shares.value.items;
  lines = take extent.count (drop extent.first lines);
}

-- the extent lies within a list
abbrev pub IsExtent : List ClaimLine → Extent → Type 0
IsExtent lines extent = extent.first + extent.count ≤ length lines

-- its share lines, with their parties
abbrev pub kept_lines : List (List ℕ) → Kept → List ShareLine
kept_lines parties kept = map (line_by parties) kept.shares

-- without their parties, which do not matter to what each of them claims
abbrev pub nameless : Kept → List ShareLine
nameless kept = kept_lines [] kept

-- the share lines at these places
abbrev pub lines_at : List ShareLine → List ℕ → List ShareLine
lines_at lines places = map (λ place. slice_index_or lines place nothing) places
  where
    nothing : ShareLine
    nothing = record { interest = 0; party = []; performing = 0; mechanical = 0; synchronisation = 0; includes = false; territory = 0 }

-- those of a party
abbrev pub lines_of_party : List ℕ → List ShareLine → List ShareLine
lines_of_party party lines = filter (λ line. pointwise nat_eq line.party party) lines

-- how many places there are
abbrev pub places_in : List (ℕ × List ℕ) → ℕ
places_in claimants = sum_by (λ claimant. length claimant.1) claimants

-- For each party that has a share line its number, which is its place among the parties, and the places of its lines; in order of number.
pub record IsCompiled (parties : List (List ℕ)) (lines : List ShareLine) (claimants : List (ℕ × List ℕ)) : Type 0 where
  pub few : length claimants ≤ length lines
  pub total : places_in claimants ≡ length lines
  pub rising : AllPairs (λ claimant later. claimant.0 < later.0) claimants
  pub known : All (λ claimant. claimant.0 < length parties) claimants
  pub some : All (λ claimant. 0 < length claimant.1) claimants
  pub within : All (λ claimant. All (λ place. place < length lines) claimant.1) claimants
  pub exact : All (λ claimant. lines_at lines claimant.1 ≡ lines_of_party (slice_index_or parties claimant.0 []) lines) claimants
  pub every : (party : ℕ) → party < length parties → Contains (map (λ line. line.party) lines) (slice_index_or parties party [])
      → Contains (map (λ claimant. claimant.0) claimants) party

-- the places with one more, of a party, which comes last among those of the party
abbrev pub with_place : (party place : ℕ) → List (ℕ × List ℕ) → List (ℕ × List ℕ)
with_place party place [] = (party, place ∷ []) ∷ []
with_place party place (claimant ∷ later) =
    if nat_lt party claimant.0 then (party, place ∷ []) ∷ claimant ∷ later
    else if party == claimant.0 then (party, claimant.1 ++ place ∷ []) ∷ later
    else claimant ∷ with_place party place later

-- the places of a claimant from the last one back, each with the party
abbrev pub placed : ℕ × List ℕ → List Placed
placed claimant = map (λ place. record { party = claimant.0; place = place }) (reverse claimant.1)

-- those of claimants, one claimant's after another's
abbrev pub in_order : List (ℕ × List ℕ) → List Placed
in_order claimants = flat_map placed claimants

-- claimants in order of party, each with places that rise, which are few enough for the numbers below
pub record AreInOrder (claimants : List (ℕ × List ℕ)) : Type 0 where
  pub rising : AllPairs (λ claimant later. claimant.0 < later.0) claimants
  pub places : All (λ claimant. AllPairs (λ place later. place < later) claimant.1) claimants
  pub few : All (λ claimant. All (λ place. place < 4294967296) claimant.1) claimants

-- a number by which share lines are in order: those of a party stand together, the last one first
abbrev pub rank_of : Placed → ℕ
rank_of entry = entry.party * 4294967296 + (4294967295 - entry.place)

-- those of claimants in order of party
pub record IsInOrder (claimants : List (ℕ × List ℕ)) (order : List Placed) : Type 0 where
  pub rising : AllPairs (λ claimant later. claimant.0 < later.0) claimants
  pub exact : order ≡ in_order claimants

-- the interests of the share lines of a registration do not fall
abbrev pub InterestsRise : List ShareLine → Type 0
InterestsRise lines = AllPairs (λ line later. line.interest ≤ later.interest) lines

-- the claim of each of them, 0 too
abbrev pub claims_of_claimants : List (ℕ × List ℕ) → (land : ℕ) → Right → List ShareLine → List (ℕ × List ℕ) → List (ℕ × ℕ)
claims_of_claimants table land right lines claimants =
    map (λ claimant. (claimant.0, sum_by (share_for right) (deciding table land (lines_at lines claimant.1)))) claimants

-- a share line of an account as claims are worked out: what it gives under each right, and whether it begins an interest
abbrev pub claim_line : (account : ℕ) → (begins : Bool) → ShareLine → ClaimLine
claim_line account begins line = record {
  account = account;
  begins = begins;
  territory = line.territory;
  shares = record { performing = share_for P line; mechanical = share_for M line; synchronisation = share_for S line };
}

-- the line is not of the interest and party of the first of those after it
abbrev pub begins_interest : ShareLine → (later : List ShareLine) → Bool
begins_interest line [] = true
begins_interest line (next ∷ _) = not (is_alike line next)

-- no line among others is of the interest and party of the line
abbrev pub IsApart : (others : List ShareLine) → ShareLine → Type 0
IsApart others line = list_any (λ other. is_alike line other) others ≡ false

-- lines of one interest and party stand together
unfoldable pub AreInRuns : List ShareLine → Type 0
AreInRuns [] = ⊤
AreInRuns (line ∷ later) = (begins_interest line later ≡ true → IsApart later line) × AreInRuns later

-- the share lines of an account, from the last one back
unfoldable pub claim_lines : (account : ℕ) → List ShareLine → List ClaimLine
claim_lines account [] = []
claim_lines account (line ∷ later) = claim_lines account later ++ claim_line account (begins_interest line later) line ∷ []

-- those of each claimant, one claimant's after another's
abbrev pub lines_of_claimants : List ShareLine → List (ℕ × List ℕ) → List ClaimLine
lines_of_claimants lines claimants = flat_map (λ claimant. claim_lines claimant.0 (lines_at lines claimant.1)) claimants

-- those of claimants that are parties, under the accounts of these
abbrev pub lines_of_parties : (accounts : List ℕ) → List ShareLine → List (ℕ × List ℕ) → List ClaimLine
lines_of_parties accounts lines claimants = flat_map (λ claimant. claim_lines (slice_index_or accounts claimant.0 0) (lines_at lines claimant.1)) claimants

-- what such a line gives under a right
abbrev pub share_under : Right → ClaimLine → ℕ
share_under P line = line.shares.performing
share_under M line = line.shares.mechanical
share_under S line = line.shares.synchronisation

-- such lines of some claimants, in order of account; among a claimant's share lines those of one interest and party stand together
pub record AreClaimLines (named : List ShareLine) (claimants : List (ℕ × List ℕ)) (lines : List ClaimLine) : Type 0 where
  pub exact : lines ≡ lines_of_claimants named claimants
  pub few : length claimants ≤ MOST_CLAIMS
  pub rising : AllPairs (λ claimant later. claimant.0 < later.0) claimants
  pub accounts : All (λ claimant. 0 < claimant.0) claimants
  pub some : All (λ claimant. 0 < length claimant.1) claimants
  pub runs : All (λ claimant. AreInRuns (lines_at named claimant.1)) claimants

-- a party's number and its account
abbrev pub Numbered : Type 0
Numbered = ArrayVec ℕ × ℕ

-- the parties by number
abbrev pub names_of : List Numbered → List (List ℕ)
names_of parties = map (λ party. party.0.items) parties

-- the account of each
abbrev pub accounts_of : List Numbered → List ℕ
accounts_of parties = map (λ party. party.1) parties

-- what a registry keeps: each work with its share lines, the parties with their accounts, and the payees of these
abbrev pub registered_as : List WorkName → List Kept → List Numbered → List (Vec ℕ Global) → Registered
registered_as works registrations parties payees = record {
  works = map (λ entry. (entry.0.items, kept_lines (names_of parties) entry.1)) (zip works registrations);
  payees = map (λ party. (party.0.items, slice_index_or (map (λ payee. payee.items) payees) party.1 [])) parties;
  accounts = map (λ payee. payee.items) payees;
}

-- A registration is kept for its claims: by party its lines stand under the account of the party.
pub record IsKept (parties : List (List ℕ)) (accounts : List ℕ) (kept : Kept) : Type 0 where
  pub claimants : List (ℕ × List ℕ)
  pub compiled : IsCompiled parties (kept_lines parties kept) claimants
  pub lines : kept.lines ≡ lines_of_parties accounts (nameless kept) claimants

-- The accounts of a registry's parties are those of their payees, and do not fall.
pub record AreAccounts (registered : Registered) (accounts : List ℕ) : Type 0 where
  pub exact : map (λ row. row.1) registered.payees
      ≡ map (λ account. slice_index_or registered.accounts account []) accounts
  pub some : All (λ account. (0 < account) × (account < length registered.accounts)) accounts
  pub ordered : AllPairs (λ account later. account ≤ later) accounts

-- names no longer than the name of a party in a run
abbrev pub AreShort : List (List ℕ) → Type 0
AreShort names = All (λ name. length name ≤ MOST_PARTY_NAME_BYTES) names

-- a registry keeps each of its works for its claims
pub record AreKept (works : List WorkName) (registrations : List Kept) (parties : List Numbered) (payees : List (Vec ℕ Global)) : Type 0 where
  pub paired : length works ≡ length registrations
  pub short : AreWorkNames works
  pub names : AreShort (names_of parties)
  pub accounts : AreAccounts (registered_as works registrations parties payees) (accounts_of parties)
  pub kept : All (IsKept (names_of parties) (accounts_of parties)) registrations
  pub rise : All (λ registration. InterestsRise (kept_lines (names_of parties) registration)) registrations
