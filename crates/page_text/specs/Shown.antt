-- A text of any bytes, as a document shows it.
use Rattle.std.specs.Prelude.{ℕ, ◌+◌, ◌/◌, ◌%◌, ◌&&◌, ◌++◌, ◌∷◌, [], Bool, List, codes, flat_map, if◌then◌else◌, nat_le}
use Rattle.std.specs.Prelude.{nat_lt, not}
use Rattle.std.specs.List.{list_any}
use Rattle.bstr.specs.Text.{part}
use Rattle.bstr.specs.Utf8.{pieces, spans_from}

-- Ranges of characters that a reader cannot see, or that change what stands beside them: controls, separators of lines,
-- what Unicode has a display pass over (Default_Ignorable_Code_Point: soft hyphens, joiners, marks of direction,
-- fillers and the like), the byte order mark, what is set aside for private use, and the sign for what could not be
-- read.
abbrev pub hidden : List (ℕ × ℕ)
hidden =
    (0, 31) ∷ (127, 159) ∷ (0xAD, 0xAD) ∷ (0x34F, 0x34F) ∷ (0x61C, 0x61C) ∷ (0x115F, 0x1160) ∷ (0x17B4, 0x17B5)
    ∷ (0x180B, 0x180F) ∷ (0x200B, 0x200F) ∷ (0x2028, 0x202E) ∷ (0x2060, 0x206F) ∷ (0x3164, 0x3164) ∷ (0xE000, 0xF8FF)
    ∷ (0xFE00, 0xFE0F) ∷ (0xFEFF, 0xFEFF) ∷ (0xFFA0, 0xFFA0) ∷ (0xFFF0, 0xFFFF) ∷ (0x1BCA0, 0x1BCA3)
    ∷ (0x1D173, 0x1D17A) ∷ (0xE0000, 0x10FFFF) ∷ []

-- the character can be seen
abbrev pub is_seen : ℕ → Bool
is_seen character = not (list_any (λ range. nat_le range.0 character && nat_le character range.1) hidden)

-- a digit to the base 16
abbrev pub hex : ℕ → ℕ
hex n = if nat_lt n 10 then n + 48 else n + 87

-- a byte by its two digits
abbrev pub byte_code : ℕ → List ℕ
byte_code byte = codes "\\x" ++ hex (byte / 16) ∷ hex (byte % 16) ∷ []

-- a character as it stands, where it can be seen, or its bytes by their digits; so with what is not UTF-8
abbrev pub shown_span : List ℕ → ℕ × ℕ × ℕ → List ℕ
shown_span bytes span =
    if is_seen span.2 then part span.0 span.1 bytes else flat_map byte_code (part span.0 span.1 bytes)

abbrev pub shown : List ℕ → List ℕ
shown bytes = flat_map (shown_span bytes) (spans_from 0 (pieces bytes))
