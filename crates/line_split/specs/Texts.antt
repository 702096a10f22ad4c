-- The bytes of a text, wherever they are kept.
use Rattle.std.specs.Prelude.{ℕ, List, ◌≤◌, take, ⊤}
use Rattle.line_split.specs.declared.text.Bytes.{Bytes}
use Rattle.line_split.specs.declared.text.Bytes.TheVariants.{InPlace, Apart}
use Rattle.line_split.specs.declared.text.TheConstants.{MOST_IN_PLACE}

abbrev pub bytes_of : Bytes → List ℕ
bytes_of (InPlace length bytes) = take length bytes
bytes_of (Apart bytes) = bytes.value.items

-- No more of the bytes in place belong to the text than there are.
abbrev pub IsSound : Bytes → Type 0
IsSound (InPlace length bytes) = length ≤ MOST_IN_PLACE
IsSound (Apart bytes) = ⊤
