-- Names of files that every system takes: ASCII letters, digits and `-`, and no two alike, also where case does not
-- count.
use Rattle.std.specs.Prelude.{ℕ, ◌+◌, ◌-◌, ◌==◌, ◌&&◌, ◌||◌, ◌++◌, ◌∷◌, [], Bool, List, codes, if◌then◌else◌, length}
use Rattle.std.specs.Prelude.{map, nat_le, slice_index, take}
use Rattle.page_text.specs.Figures.{last_digits}

-- a letter or digit of ASCII
abbrev pub is_plain : ℕ → Bool
is_plain byte =
    (nat_le 48 byte && nat_le byte 57) || (nat_le 65 byte && nat_le byte 90) || (nat_le 97 byte && nat_le byte 122)

-- a byte, or a `-` for any other
abbrev pub plain_or_dash : ℕ → ℕ
plain_or_dash byte = if is_plain byte then byte else 45

-- of several `-` in a row one stays, and none behind a `-` that stands in front
unfoldable pub squeezed : (front : ℕ) → List ℕ → List ℕ
squeezed front [] = []
squeezed front (byte ∷ rest) = if (byte == 45) && (front == 45) then squeezed front rest else byte ∷ squeezed byte rest

-- without a `-` at its end
abbrev pub without_dash : List ℕ → List ℕ
without_dash text = if slice_index text (length text - 1) == 45 then take (length text - 1) text else text

-- The letters and digits of a name, with one `-` for each run of other bytes between them: 40 bytes at most, and none
-- at the ends.
abbrev pub slug : List ℕ → List ℕ
slug name = by (without_dash (take 40 (squeezed 45 (map plain_or_dash name))))
  where
    by : List ℕ → List ℕ
    by [] = codes "payee"
    by (byte ∷ rest) = byte ∷ rest

-- the number of an account, by as many digits as `width`, which keeps it apart from others, and its name
abbrev pub file_name : (width : ℕ) → (number : ℕ) → (name : List ℕ) → List ℕ
file_name width number name = last_digits width number ++ 45 ∷ slug name

-- where case does not count
abbrev pub lower : ℕ → ℕ
lower byte = if nat_le 65 byte && nat_le byte 90 then byte + 32 else byte
