-- Why a text is no text of statements: the first row that cannot stand where it does. Or why texts cannot be merged:
-- together they have too many portions, or are of too many usage lines.
use Rattle.std.specs.Prelude.{ℕ, ◌≡◌, ◌<◌, ◌≤◌, ◌+◌, ◌^◌, ◌++◌, ◌∷◌, ◌⊎◌, [], List, None, Option, IfSome}
use Rattle.std.specs.Prelude.{false, length, slice_index_or, take, ⊤}
use Rattle.std.specs.List.{list_any}
use Rattle.csv_table.specs.Written.{text_of, text_of_row}
use Rattle.merge_statements.specs.Buffered.{is_feed}
use Rattle.merge_statements.specs.Places.{At, Follows, at_first, row_of}
use Rattle.merge_statements.specs.Wrong.{IsWrongAt}
use Rattle.merge_statements.specs.declared.read_fault.ReadFault.{ReadFault}
use Rattle.merge_statements.specs.declared.read_fault.ReadFault.TheVariants.{Refused, TooLong, Unended}
use Rattle.merge_statements.specs.declared.refusal.Refusal.{Refusal}
use Rattle.merge_statements.specs.declared.refusal.Refusal.TheVariants as refusal
use Rattle.merge_statements.specs.declared.refusal.StatementFault.{StatementFault}
use Rattle.merge_statements.specs.declared.refusal.StatementFault.TheVariants.{AmountOrTotal, End, Kind, PayeeOrReason}
use Rattle.merge_statements.specs.declared.refusal.StatementFault.TheVariants.{Row, UsageOrCount}
use Rattle.merge_statements.specs.declared.walk.Place.TheVariants.{Ended}
use Rattle.merge_statements.specs.declared.walk.Wrong.{Wrong}
use Rattle.merge_statements.specs.declared.walk.Wrong.TheVariants as wrong

-- rows that can stand one after another, from a place on, and where they lead
pub data AreRows : At → List (List (List ℕ)) → At → Type 0 where
  none : (at : At) → AreRows at [] at
  more : (at next last : At) (row : List (List ℕ)) (rows : List (List (List ℕ))) → Follows at row next
      → AreRows next rows last → AreRows at (row ∷ rows) last

-- The text is that of statements, of so many usage lines: its rows can stand one after another, from the first to the
-- last.
pub record IsStatementText (text : List ℕ) (lines : ℕ) : Type 0 where
  pub rows : List (List (List ℕ))
  pub last : At
  pub are : AreRows at_first rows last
  pub ended : last.place ≡ Ended lines
  pub bytes : text ≡ text_of rows

-- the same, and it has so many rows
pub record IsTextOfRows (text : List ℕ) (lines rows : ℕ) : Type 0 where
  pub is : IsStatementText text lines
  pub counted : rows ≡ length is.rows

-- a line that ends within the next 32,768 bytes
pub record IsLine (text line rest : List ℕ) : Type 0 where
  pub bytes : text ≡ line ++ 10 ∷ rest
  pub one : list_any is_feed line ≡ false
  pub short : length line < 32768

-- the text begins with no line that is a row of four fields
abbrev pub BeginsWithNoRow : List ℕ → Type 0
BeginsWithNoRow text = (line rest : List ℕ) (row : List (List ℕ)) → IsLine text line rest → length row ≡ 4
    → ¬ (text_of_row row ≡ line ++ 10 ∷ [])

-- the text begins with a line that is a row of four fields, of which this is the first that cannot stand at a place
pub record BeginsWithWrong (at : At) (text : List ℕ) (field : Wrong) : Type 0 where
  pub kind : List ℕ
  pub payee_or_reason : List ℕ
  pub usage_or_count : List ℕ
  pub amount_or_total : List ℕ
  pub line : List ℕ
  pub rest : List ℕ
  pub begins : IsLine text line rest
  pub row : text_of_row (row_of kind payee_or_reason usage_or_count amount_or_total) ≡ line ++ 10 ∷ []
  pub wrong_at : IsWrongAt at kind payee_or_reason usage_or_count amount_or_total field

-- what is wrong with the rest of a text, from the row of a number on
abbrev pub IsFaultFrom : At → ℕ → List ℕ → StatementFault → Type 0
IsFaultFrom at number text (Row row) = (row ≡ number) × (0 < length text) × BeginsWithNoRow text
IsFaultFrom at number text (Kind row) = (row ≡ number) × BeginsWithWrong at text wrong.Kind
IsFaultFrom at number text (PayeeOrReason row) = (row ≡ number) × BeginsWithWrong at text wrong.PayeeOrReason
IsFaultFrom at number text (UsageOrCount row) = (row ≡ number) × BeginsWithWrong at text wrong.UsageOrCount
IsFaultFrom at number text (AmountOrTotal row) = (row ≡ number) × BeginsWithWrong at text wrong.AmountOrTotal
IsFaultFrom at number text (End row) = (row ≡ number) × (text ≡ []) × ((lines : ℕ) → ¬ (at.place ≡ Ended lines))

-- the first fault of a text: the rows before it can stand one after another
pub record IsFaultIn (text : List ℕ) (fault : StatementFault) : Type 0 where
  pub rows : List (List (List ℕ))
  pub at : At
  pub rest : List ℕ
  pub are : AreRows at_first rows at
  pub bytes : text ≡ text_of rows ++ rest
  pub fault_from : IsFaultFrom at (length rows + 1) rest fault

-- the text begins with rows that can stand one after another, and this is how many of them are portions
pub record BeginsWithPortions (text : List ℕ) (count : ℕ) : Type 0 where
  pub rows : List (List (List ℕ))
  pub at : At
  pub rest : List ℕ
  pub are : AreRows at_first rows at
  pub bytes : text ≡ text_of rows ++ rest
  pub counted : count ≡ at.portions

-- Texts have so many of something together. Nothing is claimed of one whose bytes are not known.
abbrev pub HaveTogether : (Has : List ℕ → ℕ → Type 0) → List (Option (List ℕ)) → (count : ℕ) → Type 0
HaveTogether Has [] count = count ≡ 0
HaveTogether Has (start ∷ starts) count =
    (own : ℕ) × (others : ℕ)
    × IfSome start (λ text. Has text own) × HaveTogether Has starts others × (count ≡ own + others)

-- together they begin with more portions than are counted
abbrev pub HaveTooManyPortions : List (Option (List ℕ)) → Type 0
HaveTooManyPortions starts = (count : ℕ) × HaveTogether BeginsWithPortions starts count × (10 ^ 18 < count)

-- the first of them, up to a place, are texts of statements, and together of more usage lines than are counted
pub record HaveTooManyLines (starts : List (Option (List ℕ))) : Type 0 where
  pub count : ℕ
  pub inside : count ≤ length starts
  pub lines : ℕ
  pub sound : HaveTogether IsStatementText (take count starts) lines
  pub many : 10 ^ 18 < lines

-- A text is refused for its first fault, and a portion too many is one: so it is never refused for too many. Nothing is
-- claimed of lack of memory, nor of a read or a write that was refused.
abbrev pub IsRefusedFor : List ℕ → Refusal → Type 0
IsRefusedFor text (refusal.Fault fault) = IsFaultIn text fault
IsRefusedFor text refusal.Many = ⊥
IsRefusedFor text _ = ⊤

-- Of several texts the one in a place, from 0, is refused for its first fault, where its bytes are known; or all are,
-- since together they have too many portions, or are of too many usage lines. Nothing is claimed of the same as above.
abbrev pub IsRefusalOf : List (Option (List ℕ)) → ℕ → Refusal → Type 0
IsRefusalOf starts place (refusal.Fault fault) =
    (place < length starts) × IfSome (slice_index_or starts place None) (λ text. IsFaultIn text fault)
IsRefusalOf starts place refusal.Many = HaveTooManyPortions starts ⊎ HaveTooManyLines starts
IsRefusalOf starts place _ = ⊤

-- the same of the rest of one text from the row of a number on, where its bytes are known
abbrev pub IsRefusedFrom : At → ℕ → Option (List ℕ) → Refusal → Type 0
IsRefusedFrom at number left (refusal.Fault fault) = IfSome left (λ text. IsFaultFrom at number text fault)
IsRefusedFrom at number left refusal.Many = ⊥
IsRefusedFrom at number left _ = ⊤

-- memory, a read or a write was refused
abbrev pub IsOfSystem : Refusal → Type 0
IsOfSystem refusal.Memory = ⊤
IsOfSystem (refusal.Read error) = ⊤
IsOfSystem (refusal.Write error) = ⊤
IsOfSystem _ = ⊥

-- which refusal a wrong field is
abbrev pub refusal_of_field : Wrong → ℕ → Refusal
refusal_of_field wrong.Kind row = refusal.Fault (Kind row)
refusal_of_field wrong.PayeeOrReason row = refusal.Fault (PayeeOrReason row)
refusal_of_field wrong.UsageOrCount row = refusal.Fault (UsageOrCount row)
refusal_of_field wrong.AmountOrTotal row = refusal.Fault (AmountOrTotal row)
refusal_of_field wrong.Memory row = refusal.Memory

-- and a line that is none
abbrev pub refusal_of_line : ReadFault → ℕ → Refusal
refusal_of_line (Refused error) row = refusal.Read error
refusal_of_line Unended row = refusal.Fault (Row row)
refusal_of_line TooLong row = refusal.Fault (Row row)

-- faults by number
abbrev pub number_of_fault : StatementFault → ℕ
number_of_fault (Row row) = 1
number_of_fault (Kind row) = 2
number_of_fault (PayeeOrReason row) = 3
number_of_fault (UsageOrCount row) = 4
number_of_fault (AmountOrTotal row) = 5
number_of_fault (End row) = 6

abbrev pub row_of_fault : StatementFault → ℕ
row_of_fault (Row row) = row
row_of_fault (Kind row) = row
row_of_fault (PayeeOrReason row) = row
row_of_fault (UsageOrCount row) = row
row_of_fault (AmountOrTotal row) = row
row_of_fault (End row) = row
