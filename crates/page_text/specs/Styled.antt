-- Text within the quotes of a style sheet (CSS Syntax 3, 4.3.5 and 4.3.7): an escape is a backslash, digits to the base
-- 16, and a space.
use Rattle.std.specs.Prelude.{ℕ, ◌/◌, ◌%◌, ◌==◌, ◌||◌, ◌∷◌, [], Bool, List, flat_map, if◌then◌else◌, nat_lt}
use Rattle.page_text.specs.FileNames.{is_plain}
use Rattle.page_text.specs.Shown.{hex}

-- a letter or digit of ASCII, a space, or a byte of a character that is not of ASCII
abbrev pub stands_in_style : ℕ → Bool
stands_in_style byte = is_plain byte || (byte == 32) || nat_lt 127 byte

abbrev pub styled_byte : ℕ → List ℕ
styled_byte byte =
    if stands_in_style byte then byte ∷ [] else 92 ∷ hex (byte / 16) ∷ hex (byte % 16) ∷ 32 ∷ []

-- a text as it stands in a style sheet
abbrev pub styled : List ℕ → List ℕ
styled text = flat_map styled_byte text
