-- The table of works as CSV: a header, and a row for each registration that is of a work. Rows count from 0, the
-- header's.
use Rattle.std.specs.Prelude.{ℕ, ◌≡◌, ◌∷◌, [], List, Any, Contains, length, codes, slice_index_or, Option, Some, None}
use Rattle.csv_table.specs.Forms.{IsPrintable}
use Rattle.csv_table.specs.RowTable as tables
use Rattle.csv_table.specs.RowTable.{TableRules}
use Rattle.cwr_share.specs.Fields.{trimmed}
use Rattle.linked_works.specs.Linked.{Link}
use Rattle.linked_works.specs.declared.works_fault.WorksFault.{WorksFault}
use Rattle.linked_works.specs.declared.works_fault.WorksFault.TheVariants.{Csv, Work, Submitter, Number, Twice, Rows, Many, Accounts, Memory}

abbrev pub header : List (List ℕ)
header = codes "work" ∷ codes "submitter" ∷ codes "number" ∷ codes "title" ∷ []

-- the work and the submitter of a row as they stand, and its number without the spaces at its ends; a title is for
-- people
abbrev pub work_field : List (List ℕ) → List ℕ
work_field row = slice_index_or row 0 []

abbrev pub submitter_field : List (List ℕ) → List ℕ
submitter_field row = slice_index_or row 1 []

abbrev pub number_field : List (List ℕ) → List ℕ
number_field row = trimmed (slice_index_or row 2 [])

-- what a row links
abbrev pub link_of : List (List ℕ) → Link
link_of row = record { work = work_field row; submitter = submitter_field row; number = number_field row }

-- the forms of its fields: a work as in a usage line, the name of one of the submitters, and a submitter work number
abbrev pub HasWork : List (List ℕ) → Type 0
HasWork row = IsPrintable 64 (work_field row)

abbrev pub HasSubmitter : (names : List (List ℕ)) → List (List ℕ) → Type 0
HasSubmitter names row = Contains names (submitter_field row)

abbrev pub HasNumber : List (List ℕ) → Type 0
HasNumber row = IsPrintable 14 (number_field row)

-- a row links the registration
abbrev pub IsLinked : List Link → (submitter number : List ℕ) → Type 0
IsLinked links submitter number = Any (λ link. (link.submitter ≡ submitter) × (link.number ≡ number)) links

-- a row that links a registration, below the rows of the earlier ones
pub record IsWorksRow (names : List (List ℕ)) (earlier : List Link) (row : List (List ℕ)) : Type 0 where
  pub whole : length row ≡ length header
  pub work : HasWork row
  pub submitter : HasSubmitter names row
  pub number : HasNumber row
  pub new : ¬ IsLinked earlier (submitter_field row) (number_field row)

-- What a row is refused for, by its number and the earlier rows, where there is room for it: the first thing, in this
-- order, that is wrong with it.
abbrev pub IsFaultOfRow : (names : List (List ℕ)) → List Link → ℕ → List (List ℕ) → WorksFault → Type 0
IsFaultOfRow names earlier number row (Csv n) = (n ≡ number) × (¬ (length row ≡ length header))
IsFaultOfRow names earlier number row (Work n) = (n ≡ number) × (length row ≡ length header) × (¬ HasWork row)
IsFaultOfRow names earlier number row (Submitter n) =
    (n ≡ number) × (length row ≡ length header) × HasWork row × (¬ HasSubmitter names row)
IsFaultOfRow names earlier number row (Number n) =
    (n ≡ number) × (length row ≡ length header) × HasWork row × HasSubmitter names row × (¬ HasNumber row)
IsFaultOfRow names earlier number row (Twice n) =
    (n ≡ number) × (length row ≡ length header) × HasWork row × HasSubmitter names row × HasNumber row
    × IsLinked earlier (submitter_field row) (number_field row)
IsFaultOfRow names earlier number row _ = ⊥

-- what a table asks of its rows, where these are the names of the submitters
abbrev pub works_rules : (names : List (List ℕ)) → TableRules Link WorksFault
works_rules names = record {
  header = header;
  most = 1048576;
  IsRow = IsWorksRow names;
  item_of = link_of;
  Refuses = IsFaultOfRow names;
  headless = Csv 0;
  too_many = Rows;
  memory = Memory;
}

-- the rows are this table
abbrev pub IsTableOf : (names : List (List ℕ)) → List (List (List ℕ)) → List Link → Type 0
IsTableOf names = tables.IsTable (works_rules names)

-- what they are refused for: the header, the first row that is refused, or lack of memory
abbrev pub IsFaultOf : (names : List (List ℕ)) → List (List (List ℕ)) → WorksFault → Type 0
IsFaultOf names = tables.IsFaultOf (works_rules names)

-- the fault's number
abbrev pub number_of_fault : WorksFault → ℕ
number_of_fault (Csv row) = 1
number_of_fault (Work row) = 2
number_of_fault (Submitter row) = 3
number_of_fault (Number row) = 4
number_of_fault (Twice row) = 5
number_of_fault Rows = 6
number_of_fault (Many row) = 7
number_of_fault Accounts = 8
number_of_fault Memory = 9

-- the row's number, where the fault is one row's
abbrev pub place_of_fault : WorksFault → Option ℕ
place_of_fault (Csv row) = Some row
place_of_fault (Work row) = Some row
place_of_fault (Submitter row) = Some row
place_of_fault (Number row) = Some row
place_of_fault (Twice row) = Some row
place_of_fault Rows = None
place_of_fault (Many row) = Some row
place_of_fault Accounts = None
place_of_fault Memory = None
