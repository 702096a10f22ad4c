-- What is unusual in the form of a file, in words. It is told whether the file has faults or not.
use Rattle.std.specs.Prelude.{ℕ, ◌++◌, Bool, true, false, List, [], Option, None, Some, codes, decimal, flat_map}
use Rattle.std.specs.Prelude.{if◌then◌else◌, length, take}
use Rattle.std.specs.Option.{option_map_or}
use Rattle.cwr_share.specs.Lines.{lines_of}
use Rattle.file_form.specs.Controls.{differences, is_closed}
use Rattle.file_form.specs.Ends.{has_returns_alone}
use Rattle.file_form.specs.Quotes.{open_quote}
use Rattle.file_form.specs.Shifted.{shifted_lines}
use Rattle.file_form.specs.Types.{foreign_types}
use Rattle.file_form.specs.declared.controls.Counted.{Counted}
use Rattle.file_form.specs.declared.controls.Counted.TheVariants.{Groups, Transactions, Records}
use Rattle.file_form.specs.declared.controls.Difference.{Difference}
use Rattle.file_form.specs.declared.types.ForeignType.{ForeignType}
use Rattle.check_inputs.specs.Items.{further_line, items_line, tally_line}
use Rattle.check_inputs.specs.Messages.{around, remark_line}

-- all of a file is one line
abbrev pub returns_remark : (path bytes : List ℕ) → List ℕ
returns_remark path bytes =
    if has_returns_alone bytes
    then remark_line path (codes "line ends are CR alone, so that all of it is one line") else []

-- a type of records, and how many have it
abbrev pub type_text : ForeignType → List ℕ
type_text type = around (codes "'") type.name (codes "' (") ++ decimal type.records ++ codes ")"

abbrev pub types_remark : (path : List ℕ) → (lines : List (List ℕ)) → List ℕ
types_remark path lines =
    items_line type_text path (codes "record types that CWR 2.2 does not have") [] (foreign_types lines)

abbrev pub shifted_remark : (path : List ℕ) → (lines : List (List ℕ)) → List ℕ
shifted_remark path lines = tally_line path
    (codes "NWR, REV, SPT or SWT with a byte beyond ASCII before the last field that is read")
    (codes "in line ") (shifted_lines lines)

-- what a trailer counts, the trailer, and the part that it is of
abbrev pub counted_text : Counted → List ℕ
counted_text Groups = codes "groups"
counted_text Transactions = codes "transactions"
counted_text Records = codes "records"

abbrev pub trailer_text : (is_whole : Bool) → List ℕ
trailer_text true = codes "TRL says "
trailer_text false = codes "GRT says "

abbrev pub part_text : (is_whole : Bool) → List ℕ
part_text true = codes ", and the file has "
part_text false = codes ", and its group has "

-- the number that a trailer says
abbrev pub says_text : Option ℕ → Counted → List ℕ
says_text None counted = codes "no number of " ++ counted_text counted
says_text (Some number) counted = decimal number ++ codes " " ++ counted_text counted

-- and the other that is found
abbrev pub difference_text : Difference → List ℕ
difference_text it =
    codes "line " ++ decimal it.line ++ codes ": " ++ trailer_text it.is_whole
    ++ says_text it.says it.counted ++ part_text it.is_whole ++ decimal it.found

abbrev pub differences_remarks : (path : List ℕ) → List Difference → List ℕ
differences_remarks path all =
    flat_map (λ it. remark_line path (difference_text it)) (take 10 all)
    ++ further_line path (codes "further control counts that differ") (length all)

-- the file has no end
abbrev pub closing_remark : (path : List ℕ) → (is_closed : Bool) → List ℕ
closing_remark path true = []
closing_remark path false = remark_line path (codes "its last record is no TRL, so it may be cut off")

abbrev pub controls_remarks : (path : List ℕ) → (lines : List (List ℕ)) → List ℕ
controls_remarks path lines = differences_remarks path (differences lines) ++ closing_remark path (is_closed lines)

-- what is unusual in a CWR file
abbrev pub form_text : (path bytes : List ℕ) → List ℕ
form_text path bytes =
    returns_remark path bytes ++ types_remark path (lines_of bytes) ++ shifted_remark path (lines_of bytes)
    ++ controls_remarks path (lines_of bytes)

-- a quote in a table that opens and does not end
abbrev pub quote_text : (path : List ℕ) → Option ℕ → List ℕ
quote_text path None = []
quote_text path (Some row) =
    remark_line path (codes "row " ++ decimal row ++ codes ": a quote opens in it that does not end")

abbrev pub quote_remark : (path bytes : List ℕ) → List ℕ
quote_remark path bytes = quote_text path (open_quote bytes)

-- the same of a table that need not be there
abbrev pub quote_if_given : (path : List ℕ) → Option (List ℕ) → List ℕ
quote_if_given path bytes = option_map_or (quote_remark path) bytes []
