-- Text between the tags of a page of HTML, and within the quotes of its attributes (WHATWG HTML, 13.1.4).
use Rattle.std.specs.Prelude.{ℕ, zero, suc, ◌==◌, ◌∷◌, [], List, Option, codes, drop, flat_map, length, nat_eq}
use Rattle.std.specs.List.{find, starts_with}
use Rattle.std.specs.Option.{option_map_or}

-- the bytes that would open something else, each with the character reference that stands for it: & < > " '
abbrev pub references : List (ℕ × List ℕ)
references =
    (38, codes "&amp;") ∷ (60, codes "&lt;") ∷ (62, codes "&gt;") ∷ (34, codes "&quot;") ∷ (39, codes "&#39;") ∷ []

-- a byte, or what stands for it
abbrev pub escaped_byte : ℕ → List ℕ
escaped_byte byte = option_map_or (λ e. e.1) (find (λ e. e.0 == byte) references) (byte ∷ [])

-- a text as it stands in a page
abbrev pub escaped : List ℕ → List ℕ
escaped text = flat_map escaped_byte text

-- the character reference that some text of a page begins with, if it begins with one of these
abbrev pub reference_at : List ℕ → Option (ℕ × List ℕ)
reference_at page = find (λ e. starts_with nat_eq page e.1) references

-- what a reader of the page sees; fuel is at least the number of bytes
unfoldable pub read_from : ℕ → List ℕ → List ℕ
read_from zero page = []
read_from (suc n) [] = []
read_from (suc n) (byte ∷ rest) =
    option_map_or (λ e. e.0 ∷ read_from n (drop (length e.1) (byte ∷ rest))) (reference_at (byte ∷ rest))
    (byte ∷ read_from n rest)

abbrev pub read_back : List ℕ → List ℕ
read_back page = read_from (length page) page
