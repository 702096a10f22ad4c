-- Rows of the table of usage lines have no line feed in a field.
use Rattle.std.proofs.Common.{◌≡◌, ◌<◌, ℕ, zero, suc, List, [], ◌∷◌, All, arith, inl, inr, length, refl, codes, get_or}
use Rattle.std.proofs.lemmas.List.Elements.{All-cons, All-from_get_or, All-same}
use Rattle.csv_table.proofs.InTurn.{each_sound}
use Rattle.csv_table.proofs.LineFeeds.{none_in_code, none_in_printable, none_in_row, none_in_signed_number, none_in_text}
use Rattle.csv_table.specs.Table.{HasNoLineFeed, HaveNoLineFeed}
use Rattle.line_split.specs.UsageLine.{IsRight, UsageLine, amount_of, right_of, territory_of, usage_of, work_of}
use Rattle.line_split.specs.UsageParts.{AreLinesOf}
use Rattle.line_split.specs.UsageTable.{IsLine, IsTableOf, header}
use Rattle.line_split.specs.declared.TheConstants.{MOST_AMOUNT}
use Rattle.line_split.specs.declared.TheConstants.{MOST_TEXT_BYTES}

abbrev HasNone : List ℕ → Type 0
HasNone field = All (λ byte. ¬ (byte ≡ 10)) field

in_right : (field : List ℕ) → IsRight field → HasNone field
in_right field is = elim is [
  | inl performing ↦ none_in_text field (codes "P") performing refl
  | inr other ↦ elim other [
    | inl mechanical ↦ none_in_text field (codes "M") mechanical refl
    | inr synchronisation ↦ none_in_text field (codes "S") synchronisation refl
  ]
]

in_line : (row : List (List ℕ)) → IsLine row → HasNoLineFeed row
in_line row line = All-from_get_or HasNone row [] in_field
  where
    in_field : (i : ℕ) → i < length row → HasNone (get_or row i [])
    in_field zero low = none_in_printable MOST_TEXT_BYTES (usage_of row) line.texts.0
    in_field (suc zero) low = none_in_printable MOST_TEXT_BYTES (work_of row) line.texts.1
    in_field (suc (suc zero)) low = none_in_code (territory_of row) line.territory
    in_field (suc (suc (suc zero))) low = in_right (right_of row) line.right
    in_field (suc (suc (suc (suc zero)))) low = none_in_signed_number MOST_AMOUNT (amount_of row) line.amount
    in_field (suc (suc (suc (suc (suc i))))) low = absurd (omega (arith, low, line.whole))

in_header : HasNoLineFeed header
in_header = none_in_row header refl

-- rows that are all lines
pub in_lines : (rows : List (List (List ℕ))) (lines : List UsageLine) → AreLinesOf rows lines → HaveNoLineFeed rows
in_lines rows lines are = λ k d low. in_line _ (each_sound IsLine rows are.sound k d low)

-- or a header and lines below it
pub in_table : (rows : List (List (List ℕ))) (lines : List UsageLine) → IsTableOf rows lines → HaveNoLineFeed rows
in_table rows lines is =
    All-same HasNoLineFeed rows (header ∷ is.below) is.headed (All-cons HasNoLineFeed header is.below in_header (in_lines is.below lines is.are))
