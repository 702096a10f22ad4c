-- What the text of a run's statements says, and its rows.
use Rattle.std.specs.Prelude.{ℕ, ℤ, ◌≡◌, ◌≤◌, ◌<◌, ◌+◌, ◌+ℤ◌, ◌^◌, ◌++◌, ◌∷◌, [], List, All, codes, decimal, flat_map}
use Rattle.std.specs.Prelude.{length, map, sum_by, unsigned_abs}
use Rattle.std.specs.Fmt.{signed_decimal}
use Rattle.std.specs.List.Sorted.{IsStrictlySortedBy}
use Rattle.std.specs.Cmp.Lexicographic.{slice_cmp}
use Rattle.std.specs.Ordering.{nat_cmp}
use Rattle.csv_table.specs.Forms.{IsPrintable}
use Rattle.csv_table.specs.Written.{text_of}
use Rattle.line_split.specs.ReasonTexts.{reason_text}
use Rattle.line_split.specs.Signs.{int_sum_by}
use Rattle.line_split.specs.declared.reason.Reason.{Reason}

-- a portion of a use: what the use is called, and the portion in minor units
pub record Portion : Type 0 where
  pub usage : List ℕ
  pub amount : ℤ

-- a payee and its portions
pub record Statement : Type 0 where
  pub payee : List ℕ
  pub portions : List Portion

-- what nobody gets of a use, and why
pub record Rest : Type 0 where
  pub reason : List ℕ
  pub usage : List ℕ
  pub amount : ℤ

-- the statements of all payees, what nobody gets, and how many usage lines there were and what they came to
pub record Statements : Type 0 where
  pub payees : List Statement
  pub rests : List Rest
  pub lines : ℕ
  pub amount : ℤ

-- what a payee's portions come to
abbrev pub total_of : Statement → ℤ
total_of statement = int_sum_by (λ portion. portion.amount) statement.portions

-- what nobody gets in all
abbrev pub total_of_rests : List Rest → ℤ
total_of_rests rests = int_sum_by (λ rest. rest.amount) rests

-- A row of four fields for each portion, and one for each payee with how many there are and what they come to.
abbrev pub portion_row : List ℕ → Portion → List (List ℕ)
portion_row payee portion = codes "L" ∷ payee ∷ portion.usage ∷ signed_decimal portion.amount ∷ []

abbrev pub rest_row : Rest → List (List ℕ)
rest_row rest = codes "M" ∷ rest.reason ∷ rest.usage ∷ signed_decimal rest.amount ∷ []

abbrev pub total_row : (kind payee : List ℕ) → ℕ → ℤ → List (List ℕ)
total_row kind payee count total = kind ∷ payee ∷ decimal count ∷ signed_decimal total ∷ []

abbrev pub statement_rows : Statement → List (List (List ℕ))
statement_rows statement =
    map (portion_row statement.payee) statement.portions
    ++ total_row (codes "S") statement.payee (length statement.portions) (total_of statement) ∷ []

abbrev pub rests_rows : List Rest → List (List (List ℕ))
rests_rows rests = map rest_row rests ++ total_row (codes "T") [] (length rests) (total_of_rests rests) ∷ []

-- first the payees, then what nobody gets, and last the usage lines
abbrev pub rows_of_statements : Statements → List (List (List ℕ))
rows_of_statements all =
    flat_map statement_rows all.payees ++ (rests_rows all.rests ++ total_row (codes "R") [] all.lines all.amount ∷ [])

abbrev pub text_of_statements : Statements → List ℕ
text_of_statements all = text_of (rows_of_statements all)

-- an amount of a posting: not 0, and a million millions at most either way
abbrev pub IsAmount : ℤ → Type 0
IsAmount amount = (0 < unsigned_abs amount) × (unsigned_abs amount ≤ 1000000000000)

-- a text of a payee or of a use
abbrev pub IsName : List ℕ → Type 0
IsName = IsPrintable 64

abbrev pub IsPortion : Portion → Type 0
IsPortion portion = IsName portion.usage × IsAmount portion.amount

abbrev pub IsReason : List ℕ → Type 0
IsReason text = (reason : Reason) × (text ≡ reason_text reason)

abbrev pub IsRest : Rest → Type 0
IsRest rest = IsReason rest.reason × IsName rest.usage × IsAmount rest.amount

-- a payee has a portion
pub record IsStatement (statement : Statement) : Type 0 where
  pub payee : IsName statement.payee
  pub some : 0 < length statement.portions
  pub portions : All IsPortion statement.portions

-- What all statements keep to: each payee stands once, in byte order, and all that is paid or left comes to what came
-- in.
pub record AreStatements (all : Statements) : Type 0 where
  pub rising : IsStrictlySortedBy (slice_cmp nat_cmp) (map (λ statement. statement.payee) all.payees)
  pub payees : All IsStatement all.payees
  pub rests : All IsRest all.rests
  pub adds_up : int_sum_by total_of all.payees +ℤ total_of_rests all.rests ≡ all.amount
  -- sums have a limit
  pub lines : all.lines ≤ 10 ^ 18
  pub amount : unsigned_abs all.amount ≤ 10 ^ 30
  pub totals : All (λ statement. unsigned_abs (total_of statement) ≤ 10 ^ 30) all.payees
  pub rest : unsigned_abs (total_of_rests all.rests) ≤ 10 ^ 30

-- how many portions statements have, those that nobody gets among them
abbrev pub count_of_portions : Statements → ℕ
count_of_portions all = sum_by (λ statement. length statement.portions) all.payees + length all.rests

-- so many portions, or usage lines, are counted
abbrev pub IsCount : ℕ → Type 0
IsCount count = count ≤ 10 ^ 18

-- the text is that of statements of so many usage lines, whose portions can be counted
abbrev pub SaysStatements : List ℕ → ℕ → Type 0
SaysStatements text lines = (all : Statements) × AreStatements all × IsCount (count_of_portions all)
    × (all.lines ≡ lines) × (text ≡ text_of_statements all)
