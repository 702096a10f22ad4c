-- The table of payees as CSV: a header, and a row for each party that is paid to another account. Rows count from 0, the header's.
use Rattle.std.specs.Prelude.{ℕ, ◌≡◌, ◌∷◌, [], List, length, codes, slice_index_or, Option, Some, None}
use Rattle.csv_table.specs.Forms.{IsPrintable}
use Rattle.csv_table.specs.RowTable as tables
use Rattle.csv_table.specs.RowTable.{TableRules}
use Rattle.cwr_share.specs.Fields.{trimmed}
use Rattle.cwr_share.specs.Payees.{HasRow}
use Rattle.cwr_share.specs.declared.payees.TheConstants.{MOST_NAME_BYTES, MOST_PAYEES}
use Rattle.cwr_share.specs.declared.payee_fault.PayeeFault.{PayeeFault}
use Rattle.cwr_share.specs.declared.payee_fault.PayeeFault.TheVariants.{Csv, Fields, Twice, Rows, Submitter, Memory}

abbrev pub header : List (List ℕ)
header = codes "party" ∷ codes "payee" ∷ []

-- the two fields of a row, without the spaces at their ends
abbrev pub party_field : List (List ℕ) → List ℕ
party_field row = trimmed (slice_index_or row 0 [])

abbrev pub payee_field : List (List ℕ) → List ℕ
payee_field row = trimmed (slice_index_or row 1 [])

-- the party of a row, with its payee
abbrev pub payee_row_of : List (List ℕ) → List ℕ × List ℕ
payee_row_of row = (party_field row, payee_field row)

-- both are names: 1 to 64 bytes of printable ASCII
abbrev pub HasNames : List (List ℕ) → Type 0
HasNames row = IsPrintable MOST_NAME_BYTES (party_field row) × IsPrintable MOST_NAME_BYTES (payee_field row)

-- a row that names a payee, below the rows of the earlier ones
pub record IsPayeeRow (earlier : List (List ℕ × List ℕ)) (row : List (List ℕ)) : Type 0 where
  pub whole : length row ≡ length header
  pub names : HasNames row
  pub new : ¬ HasRow earlier (party_field row)

-- What a row is refused for, by its number and the earlier rows, where there is room for it: the first thing, in this
-- order, that is wrong with it.
abbrev pub IsFaultOfRow : List (List ℕ × List ℕ) → ℕ → List (List ℕ) → PayeeFault → Type 0
IsFaultOfRow earlier number row (Csv n) = (n ≡ number) × (¬ (length row ≡ length header))
IsFaultOfRow earlier number row (Fields n) = (n ≡ number) × (length row ≡ length header) × (¬ HasNames row)
IsFaultOfRow earlier number row (Twice n) =
    (n ≡ number) × (length row ≡ length header) × HasNames row × HasRow earlier (party_field row)
IsFaultOfRow earlier number row Rows = ⊥
IsFaultOfRow earlier number row (Submitter n) = ⊥
IsFaultOfRow earlier number row Memory = ⊥

-- what a table asks of its rows
abbrev pub payee_rules : TableRules (List ℕ × List ℕ) PayeeFault
payee_rules = record {
  header = header;
  most = MOST_PAYEES;
  IsRow = IsPayeeRow;
  item_of = payee_row_of;
  Refuses = IsFaultOfRow;
  headless = Csv 0;
  too_many = Rows;
  memory = Memory;
}

-- the rows are this table
abbrev pub IsTableOf : List (List (List ℕ)) → List (List ℕ × List ℕ) → Type 0
IsTableOf = tables.IsTable payee_rules

-- what they are refused for: the header, the first row that is refused, or lack of memory
abbrev pub IsFaultOf : List (List (List ℕ)) → PayeeFault → Type 0
IsFaultOf = tables.IsFaultOf payee_rules

-- the rows that are left out, and the table of those that are read
abbrev pub IsReadWithout : List (List (List ℕ)) → List (List (List ℕ) × PayeeFault) → List (List ℕ × List ℕ) → Type 0
IsReadWithout = tables.IsReadWithout payee_rules

-- the fault's number
abbrev pub number_of_fault : PayeeFault → ℕ
number_of_fault (Csv row) = 1
number_of_fault (Fields row) = 2
number_of_fault (Twice row) = 3
number_of_fault Rows = 4
number_of_fault (Submitter row) = 5
number_of_fault Memory = 6

-- the row's number, where the fault is one row's
abbrev pub place_of_fault : PayeeFault → Option ℕ
place_of_fault (Csv row) = Some row
place_of_fault (Fields row) = Some row
place_of_fault (Twice row) = Some row
place_of_fault Rows = None
place_of_fault (Submitter row) = Some row
place_of_fault Memory = None
