-- The claims of a registry on a usage line.
use Rattle.std.specs.Prelude.{ℕ, zero, suc, ◌+◌, ◌==◌, ◌&&◌, ◌∷◌, ◌≡◌, All, Bool, List, [], drop, filter, map, not, nat_eq, nat_lt, reverse, sum_by, if◌then◌else◌, Option, Some, None}
use Rattle.std.specs.List.{enumerate_from, find, list_any}
use Rattle.std.specs.Option.{option_map_or}
use Rattle.std.specs.Cmp.Lexicographic.{pointwise}
use Rattle.tis_tree.specs.Territories.{encloses}
use Rattle.line_split.specs.Claims.{total_of}
use Rattle.line_split.specs.declared.TheConstants.{MOST_CLAIMED}
use Rattle.line_split.specs.UsageLine.{UsageLine}
use Rattle.line_split.specs.declared.usage.Right.{Right}
use Rattle.line_split.specs.declared.usage.Right.TheVariants.{P, M, S}
use Rattle.line_split.specs.declared.reason.Reason.{Reason}
use Rattle.line_split.specs.declared.reason.Reason.TheVariants.{Work, Land, Over}
use Rattle.cwr_share.specs.Payees.{payee_of}
use Rattle.cwr_share.specs.Registrations.{ShareLine, find_work}
use Rattle.cwr_share.specs.Registered.{Registered}

-- two share lines are of one interest and party
abbrev pub is_alike : ShareLine → ShareLine → Bool
is_alike line other = (line.interest == other.interest) && pointwise nat_eq line.party other.party

-- the line's share for a right: performing, mechanical or synchronisation; nothing where it excludes
abbrev pub share_for : Right → ShareLine → ℕ
share_for right line = if line.includes then by_right right else 0
  where
    by_right : Right → ℕ
    by_right P = line.performing
    by_right M = line.mechanical
    by_right S = line.synchronisation

-- the line covers the land: its territory contains it
abbrev pub covers : List (ℕ × List ℕ) → (land : ℕ) → ShareLine → Bool
covers table land line = encloses table line.territory land

-- what an interest and party have in a land: the share of the line of theirs that comes last among those which cover the land, and nothing if none does
abbrev pub share_in : List (ℕ × List ℕ) → (land : ℕ) → Right → List ShareLine → (interest : ℕ) → (party : List ℕ) → ℕ
share_in table land right lines interest party = option_map_or (share_for right)
    (find (λ line. (line.interest == interest) && pointwise nat_eq line.party party && covers table land line) (reverse lines)) 0

-- a share line decides what its interest and party have in a land: its territory contains the land, and that of no later line of theirs does
abbrev pub decides : List (ℕ × List ℕ) → (land : ℕ) → ShareLine → (later : List ShareLine) → Bool
decides table land share later = covers table land share && not (list_any (λ other. is_alike share other && covers table land other) later)

-- the lines that decide
unfoldable pub deciding : List (ℕ × List ℕ) → (land : ℕ) → List ShareLine → List ShareLine
deciding table land [] = []
deciding table land (line ∷ later) = if decides table land line later then line ∷ deciding table land later else deciding table land later

-- what the share lines of a registration claim in a land, whoever is paid it
abbrev pub claimed_in : List (ℕ × List ℕ) → (land : ℕ) → Right → List ShareLine → ℕ
claimed_in table land right lines = sum_by (share_for right) (deciding table land lines)

-- a payee's claim: the shares of the lines that decide, of the parties that are paid to it, one for each interest and party
abbrev pub claim_of : List (ℕ × List ℕ) → (land : ℕ) → Right → (pay : List ℕ → List ℕ) → List ShareLine → (payee : List ℕ) → ℕ
claim_of table land right pay lines payee = sum_by (share_for right) (filter (λ line. pointwise nat_eq (pay line.party) payee) (deciding table land lines))

-- the sum of a function over the numbers below one
unfoldable pub sum_below : ℕ → (ℕ → ℕ) → ℕ
sum_below zero f = 0
sum_below (suc n) f = sum_below n f + f n

-- a share line with another name of its party
abbrev pub renamed : (List ℕ → List ℕ) → ShareLine → ShareLine
renamed name line = record {
  interest = line.interest;
  party = name line.party;
  performing = line.performing;
  mechanical = line.mechanical;
  synchronisation = line.synchronisation;
  includes = line.includes;
  territory = line.territory;
}

-- the accounts with a claim to something, each with its claim; accounts count from 1
abbrev pub claims_among : List (ℕ × List ℕ) → (land : ℕ) → Right → (pay : List ℕ → List ℕ) → List ShareLine → (payees : List (List ℕ)) → List (ℕ × ℕ)
claims_among table land right pay lines payees = filter (λ claim. not (claim.1 == 0))
    (map (λ claimant. (claimant.0, claim_of table land right pay lines claimant.1)) (enumerate_from 1 payees))

-- the claims on a line by the share lines of its work
abbrev pub claims_by : List (ℕ × List ℕ) → Registered → UsageLine → List ShareLine → List (ℕ × ℕ)
claims_by table registered line lines =
    claims_among table line.territory line.right (payee_of registered.payees) lines (drop 1 registered.accounts)

-- the parties of a work have the same payees in two registries
abbrev pub ArePaidAlike : (work : List ℕ) → Registered → Registered → Type 0
ArePaidAlike work registered other = (lines : List ShareLine) → find_work work registered.works ≡ Some lines
    → All (λ line. payee_of registered.payees line.party ≡ payee_of other.payees line.party) lines

-- the territory has a row in the table
abbrev pub is_known : List (ℕ × List ℕ) → ℕ → Bool
is_known table code = list_any (λ row. row.0 == code) table

-- what stands against all claims on a line, if anything does: its work is not registered, or its territory is unknown, or the claims come to more than 100.06 per cent; the first of these
abbrev pub reason_against : List (ℕ × List ℕ) → Registered → UsageLine → Option Reason
reason_against table registered line = against (find_work line.work registered.works)
  where
    against : Option (List ShareLine) → Option Reason
    against None = Some Work
    against (Some lines) =
        if not (is_known table line.territory) then Some Land
        else if nat_lt MOST_CLAIMED (total_of (claims_by table registered line lines)) then Some Over
        else None

-- the claims on a line: none where a reason stands against them
abbrev pub claims_on : List (ℕ × List ℕ) → Registered → UsageLine → List (ℕ × ℕ)
claims_on table registered line = unless (reason_against table registered line) (find_work line.work registered.works)
  where
    unless : Option Reason → Option (List ShareLine) → List (ℕ × ℕ)
    unless None (Some lines) = claims_by table registered line lines
    unless _ _ = []
