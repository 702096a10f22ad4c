-- The cells that a usage line has in tables of uses, and the row of a work above its uses.
use Rattle.std.specs.Prelude.{ℕ, ℤ, pos, ◌==◌, ◌∷◌, [], Bool, List, codes, decimal, if◌then◌else◌, int_lt, length, nat_le}
use Rattle.line_split.specs.UsageLine.{UsageLine}
use Rattle.line_split.specs.declared.usage.Right.{Right}
use Rattle.line_split.specs.declared.usage.Right.TheVariants.{P, M, S}
use Rattle.page_parts.specs.Pieces.{all_of, in_page}
use Rattle.page_parts.specs.Tags.{row_tag_text, work_tag_text}
use Rattle.page_text.specs.Figures.{amount_text}

-- a name with a code behind it
abbrev pub with_code : (name code : List ℕ) → List ℕ
with_code name code = all_of (name ∷ codes " <span class=\"code\">" ∷ code ∷ codes "</span>" ∷ [])

abbrev pub bold : List ℕ → List ℕ
bold inside = all_of (codes "<b>" ∷ inside ∷ codes "</b>" ∷ [])

-- a territory by its name and its code, or by its code alone where it has no name
abbrev pub land_text : (name : List ℕ) → (code : ℕ) → List ℕ
land_text name code = if length name == 0 then decimal code else with_code (in_page name) (decimal code)

-- a work by its title and what usage lines call it, or by that alone where it has no title
abbrev pub work_text : (title work : List ℕ) → List ℕ
work_text title work =
    if length title == 0 then bold (in_page work) else with_code (bold (in_page title)) (in_page work)

abbrev pub right_name : Right → List ℕ
right_name P = codes "Performing"
right_name M = codes "Mechanical"
right_name S = codes "Synchronisation"

abbrev pub reversal_mark_text : (is_reversal : Bool) → List ℕ
reversal_mark_text is_reversal = if is_reversal then codes "<span class=\"back\">Reversal</span>" else []

-- the line is a reversal
abbrev pub is_reversal : UsageLine → Bool
is_reversal line = int_lt line.amount (pos 0)

-- the row of the usage list, the use, the territory and the right
abbrev pub line_cells_text : (land : List ℕ) → (row : ℕ) → UsageLine → List ℕ
line_cells_text land row line = all_of (
    row_tag_text (is_reversal line) ∷ codes "<td>" ∷ decimal row
    ∷ codes "</td><th scope=\"row\">" ∷ in_page line.usage ∷ reversal_mark_text (is_reversal line)
    ∷ codes "</th><td>" ∷ land_text land line.territory
    ∷ codes "</td><td>" ∷ right_name line.right ∷ codes "</td>" ∷ [])

-- up to six uses of a work stay on one printed page
abbrev pub body_tag_text : (uses : ℕ) → List ℕ
body_tag_text uses = if nat_le uses 6 then codes "<tbody class=\"short\">" else codes "<tbody>"

-- the row of a work: its title, and what its uses come to
abbrev pub work_row_text : (decimals columns : ℕ) → (title work : List ℕ) → (uses : ℕ) → (amount : ℤ) → List ℕ
work_row_text decimals columns title work uses amount = all_of (
    body_tag_text uses ∷ work_tag_text (int_lt amount (pos 0)) ∷ codes "<th scope=\"rowgroup\" colspan=\""
    ∷ decimal columns ∷ codes "\">"
    ∷ work_text title work ∷ codes "</th><td>" ∷ amount_text decimals amount ∷ codes "</td></tr>\n" ∷ [])
