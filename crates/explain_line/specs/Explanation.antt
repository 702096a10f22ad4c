-- The explanation of a usage line: each term by which it is divided, as a row.
use Rattle.std.specs.Prelude.{ℕ, ℤ, ◌≡◌, ◌<◌, ◌+◌, ◌⊎◌, ◌++◌, ◌∷◌, [], Bool, List, codes, decimal, drop, if◌then◌else◌, length, map, slice_index, slice_index_or, unsigned_abs, Option}
use Rattle.std.specs.Fmt.{signed_decimal}
use Rattle.std.specs.List.{enumerate_from}
use Rattle.std.specs.Option.{option_map_or}
use Rattle.csv_table.specs.Written.{text_of, text_of_row}
use Rattle.cwr_share.specs.ClaimsOn.{claims_by, claims_on, covers, decides, reason_against}
use Rattle.cwr_share.specs.Filed.{last_opening, numbers_from, recorded_share, shares_from}
use Rattle.cwr_share.specs.Lines.{lines_of}
use Rattle.cwr_share.specs.Payees.{payee_of}
use Rattle.cwr_share.specs.Registered.{Registered}
use Rattle.cwr_share.specs.Registrations.{ShareLine}
use Rattle.line_split.specs.Claims.{base_of, participants_of}
use Rattle.line_split.specs.FairSplit.{value_at}
use Rattle.line_split.specs.LargestRemainder.{contenders_of, portion_of, quota_of, rank_of, remainder_of, units_left}
use Rattle.line_split.specs.ReasonTexts.{reason_text}
use Rattle.line_split.specs.Signs.{with_sign_of}
use Rattle.line_split.specs.UsageLine.{UsageLine}
use Rattle.line_split.specs.declared.reason.Reason.{Reason}
use Rattle.line_split.specs.declared.usage.Right.{Right}
use Rattle.line_split.specs.declared.usage.Right.TheVariants.{P, M, S}
use Rattle.run_inputs.specs.Inputs.{IsReading}
use Rattle.run_inputs.specs.declared.inputs.Inputs.{Inputs}
use Rattle.run_inputs.specs.declared.inputs.Tables.{Tables}

-- a row was added to a text, or several were
abbrev pub AddsRow : (old new : List ℕ) → List (List ℕ) → Type 0
AddsRow old new row = new ≡ old ++ text_of_row row

abbrev pub AddsRows : (old new : List ℕ) → List (List (List ℕ)) → Type 0
AddsRows old new rows = new ≡ old ++ text_of rows

abbrev pub right_text : Right → List ℕ
right_text P = codes "P"
right_text M = codes "M"
right_text S = codes "S"

abbrev pub yes_or_no : Bool → List ℕ
yes_or_no b = if b then codes "yes" else codes "no"

-- included or excluded
abbrev pub mark_text : Bool → List ℕ
mark_text includes = if includes then codes "I" else codes "E"

-- the usage line, by its row
abbrev pub line_row : (row : ℕ) → UsageLine → List (List ℕ)
line_row row line =
    codes "U" ∷ decimal row ∷ line.usage ∷ line.work ∷ decimal line.territory ∷ right_text line.right ∷ signed_decimal line.amount ∷ []

-- the registration in force, by the number of its first line, and why no claim counts
abbrev pub registration_row : Option ℕ → Option Reason → List (List ℕ)
registration_row line reason = codes "N" ∷ option_map_or decimal line [] ∷ option_map_or reason_text reason [] ∷ []

-- What a row says of a share line: the number of its line, its interest, party and payee, its share, whether it includes, its territory, and
-- whether that contains the land and the line decides.
pub record Shown : Type 0 where
  pub number : ℕ
  pub interest : ℕ
  pub party : List ℕ
  pub payee : List ℕ
  pub recorded : ℕ
  pub mark : List ℕ
  pub territory : ℕ
  pub covers : List ℕ
  pub decides : List ℕ

-- as fields
abbrev pub share_fields : Shown → List (List ℕ)
share_fields shown =
    decimal shown.number ∷ decimal shown.interest ∷ shown.party ∷ shown.payee ∷ decimal shown.recorded ∷ shown.mark ∷ decimal shown.territory ∷ shown.covers ∷ shown.decides ∷ []

-- a share line of a registration, by its place, for a land and a right, where its party is paid to this payee
abbrev pub shown_of : List (ℕ × List ℕ) → (land : ℕ) → Right → (payee : List ℕ) → (numbers : List ℕ) → (shares : List ShareLine) → ℕ × ShareLine → Shown
shown_of table land right payee numbers shares e = record {
  number = slice_index numbers e.0;
  interest = e.1.interest;
  party = e.1.party;
  payee = payee;
  recorded = recorded_share right e.1;
  mark = mark_text e.1.includes;
  territory = e.1.territory;
  covers = yes_or_no (covers table land e.1);
  decides = yes_or_no (decides table land e.1 (drop (e.0 + 1) shares));
}

-- and its row
abbrev pub share_row : List (ℕ × List ℕ) → Registered → (land : ℕ) → Right → (numbers : List ℕ) → (shares : List ShareLine) → ℕ × ShareLine → List (List ℕ)
share_row table registered land right numbers shares e =
    codes "C" ∷ share_fields (shown_of table land right (payee_of registered.payees e.1.party) numbers shares e)

-- an account with its payee, which the residue's has none of
abbrev pub payee_at : Registered → (account : ℕ) → List ℕ
payee_at registered account = slice_index_or registered.accounts account []

-- what an account claims
abbrev pub claim_row : Registered → ℕ × ℕ → List (List ℕ)
claim_row registered claim = codes "A" ∷ decimal claim.0 ∷ payee_at registered claim.0 ∷ decimal claim.1 ∷ []

-- what a registration comes to that begins in the line with this number
abbrev pub rows_by : List (ℕ × List ℕ) → Registered → (file : List (List ℕ)) → UsageLine → (number : ℕ) → List (List (List ℕ))
rows_by table registered file line number =
    map (share_row table registered line.territory line.right (numbers_from file number) (shares_from file number)) (enumerate_from 0 (shares_from file number))
    ++ map (claim_row registered) (claims_by table registered line (shares_from file number))

-- what a share is a share of, the residue's share, and how many units the quotas leave
abbrev pub base_row : (size : ℕ) → (claims : List (ℕ × ℕ)) → List (List ℕ)
base_row size claims =
    codes "B" ∷ decimal (base_of claims) ∷ decimal (value_at (participants_of claims) (length claims)) ∷ decimal (units_left size (base_of claims) (participants_of claims)) ∷ []

-- the account of a participant, by its place, and its portion
abbrev pub portion_shown : (amount : ℤ) → (claims : List (ℕ × ℕ)) → ℕ × (ℕ × ℕ) → ℕ × ℤ
portion_shown amount claims e = (e.1.0, with_sign_of amount (portion_of (unsigned_abs amount) (base_of claims) (participants_of claims) e.0 e.1.1))

-- the fields of a participant: its account and payee, its share, its quota and what that leaves, its rank, and its portion
abbrev pub participant_fields : (account : ℕ) → (payee : List ℕ) → (share quota remainder rank : ℕ) → (portion : ℤ) → List (List ℕ)
participant_fields account payee share quota remainder rank portion =
    codes "P" ∷ decimal account ∷ payee ∷ decimal share ∷ decimal quota ∷ decimal remainder ∷ decimal rank ∷ signed_decimal portion ∷ []

-- and how it comes to that; ranks count from 1
abbrev pub participant_row : Registered → (amount : ℤ) → (claims : List (ℕ × ℕ)) → ℕ × (ℕ × ℕ) → List (List ℕ)
participant_row registered amount claims e =
    let size = unsigned_abs amount in
    let base = base_of claims in
    let participants = participants_of claims in
    let shown = portion_shown amount claims e in
    participant_fields shown.0 (payee_at registered shown.0) e.1.1 (quota_of size base e.1.1) (remainder_of size base e.1.1)
    (rank_of (contenders_of size base participants) (e.0, remainder_of size base e.1.1) + 1) shown.1

-- the accounts and portions of these rows
abbrev pub portions_shown : (amount : ℤ) → (claims : List (ℕ × ℕ)) → List (ℕ × ℤ)
portions_shown amount claims = map (portion_shown amount claims) (enumerate_from 0 (participants_of claims))

-- the division of an amount by claims
abbrev pub division_rows : Registered → (amount : ℤ) → (claims : List (ℕ × ℕ)) → List (List (List ℕ))
division_rows registered amount claims =
    base_row (unsigned_abs amount) claims ∷ map (participant_row registered amount claims) (enumerate_from 0 (participants_of claims))

-- the registration in force, which begins in a line of the file, and what it comes to
abbrev pub registration_rows : List (ℕ × List ℕ) → Registered → (file : List (List ℕ)) → UsageLine → Option Reason → List (List (List ℕ))
registration_rows table registered file line reason =
    registration_row (last_opening file line.work) reason ∷ option_map_or (rows_by table registered file line) (last_opening file line.work) []

-- the explanation of the line in a row, by the territories, the registrations and their file
abbrev pub explanation_rows : Tables → (file : List (List ℕ)) → (row : ℕ) → UsageLine → List (List (List ℕ))
explanation_rows tables file row line =
    let table = tables.territories in
    let registered = tables.registry in
    line_row row line
    ∷ (registration_rows table registered file line (reason_against table registered line)
    ++ division_rows registered line.amount (claims_on table registered line))

-- the row of a list of usage lines, from 1
pub record IsRow (lines : List UsageLine) (row : ℕ) (line : UsageLine) : Type 0 where
  pub before : List UsageLine
  pub after : List UsageLine
  pub split : lines ≡ before ++ line ∷ after
  pub place : row ≡ length before + 1

-- The text explains the line in a row of the usage list of these inputs.
pub record IsExplanationOf (files : Inputs (List ℕ)) (row : ℕ) (text : List ℕ) : Type 0 where
  pub tables : Tables
  pub read : IsReading files tables
  pub line : UsageLine
  pub at : IsRow tables.usage row line
  pub rows : text ≡ text_of (explanation_rows tables (lines_of files.registrations) row line)

-- the inputs are sound, and the usage list has no such row
pub record HasNoRow (files : Inputs (List ℕ)) (row : ℕ) : Type 0 where
  pub tables : Tables
  pub read : IsReading files tables
  pub beyond : (row ≡ 0) ⊎ (length tables.usage < row)
