-- The table of payees of several submitters as CSV: a header, and a row for each party of a submitter that is paid to
-- another account. Rows count from 0, the header's.
use Rattle.std.specs.Prelude.{ℕ, ◌≡◌, ◌∷◌, [], List, Contains, length, codes, slice_index_or}
use Rattle.csv_table.specs.Forms.{IsPrintable}
use Rattle.csv_table.specs.RowTable as tables
use Rattle.csv_table.specs.RowTable.{TableRules}
use Rattle.cwr_share.specs.Fields.{trimmed}
use Rattle.cwr_share.specs.Joined.{qualified}
use Rattle.cwr_share.specs.Payees.{HasRow}
use Rattle.cwr_share.specs.declared.payee_fault.PayeeFault.{PayeeFault}
use Rattle.cwr_share.specs.declared.payee_fault.PayeeFault.TheVariants.{Csv, Fields, Twice, Rows, Submitter, Memory}

abbrev pub header : List (List ℕ)
header = codes "submitter" ∷ codes "party" ∷ codes "payee" ∷ codes "name" ∷ []

-- the submitter of a row as it stands, and its party and payee without the spaces at their ends; a name is for people
abbrev pub submitter_field : List (List ℕ) → List ℕ
submitter_field row = slice_index_or row 0 []

abbrev pub party_field : List (List ℕ) → List ℕ
party_field row = trimmed (slice_index_or row 1 [])

abbrev pub payee_field : List (List ℕ) → List ℕ
payee_field row = trimmed (slice_index_or row 2 [])

-- the party of a row behind the name of its submitter, with its payee
abbrev pub payee_row_of : List (List ℕ) → List ℕ × List ℕ
payee_row_of row = (qualified (submitter_field row) (party_field row), payee_field row)

-- the party and the payee are names: 1 to 64 bytes of printable ASCII
abbrev pub HasNames : List (List ℕ) → Type 0
HasNames row = IsPrintable 64 (party_field row) × IsPrintable 64 (payee_field row)

-- and the submitter is one of these
abbrev pub HasSubmitter : (names : List (List ℕ)) → List (List ℕ) → Type 0
HasSubmitter names row = Contains names (submitter_field row)

-- a row that names a payee, below the rows of the earlier ones
pub record IsPayeeRow (names : List (List ℕ)) (earlier : List (List ℕ × List ℕ)) (row : List (List ℕ)) : Type 0 where
  pub whole : length row ≡ length header
  pub names_of : HasNames row
  pub submitter : HasSubmitter names row
  pub new : ¬ HasRow earlier (qualified (submitter_field row) (party_field row))

-- What a row is refused for, by its number and the earlier rows, where there is room for it: the first thing, in this
-- order, that is wrong with it.
abbrev pub IsFaultOfRow : (names : List (List ℕ)) → List (List ℕ × List ℕ) → ℕ → List (List ℕ) → PayeeFault → Type 0
IsFaultOfRow names earlier number row (Csv n) = (n ≡ number) × (¬ (length row ≡ length header))
IsFaultOfRow names earlier number row (Fields n) = (n ≡ number) × (length row ≡ length header) × (¬ HasNames row)
IsFaultOfRow names earlier number row (Submitter n) =
    (n ≡ number) × (length row ≡ length header) × HasNames row × (¬ HasSubmitter names row)
IsFaultOfRow names earlier number row (Twice n) =
    (n ≡ number) × (length row ≡ length header) × HasNames row × HasSubmitter names row
    × HasRow earlier (qualified (submitter_field row) (party_field row))
IsFaultOfRow names earlier number row _ = ⊥

-- what a table asks of its rows, where these are the names of the submitters
abbrev pub payee_rules : (names : List (List ℕ)) → TableRules (List ℕ × List ℕ) PayeeFault
payee_rules names = record {
  header = header;
  most = 1048576;
  IsRow = IsPayeeRow names;
  item_of = payee_row_of;
  Refuses = IsFaultOfRow names;
  headless = Csv 0;
  too_many = Rows;
  memory = Memory;
}

-- the rows are this table
abbrev pub IsTableOf : (names : List (List ℕ)) → List (List (List ℕ)) → List (List ℕ × List ℕ) → Type 0
IsTableOf names = tables.IsTable (payee_rules names)

-- what they are refused for: the header, the first row that is refused, or lack of memory
abbrev pub IsFaultOf : (names : List (List ℕ)) → List (List (List ℕ)) → PayeeFault → Type 0
IsFaultOf names = tables.IsFaultOf (payee_rules names)
