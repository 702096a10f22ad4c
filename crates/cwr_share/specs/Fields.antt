-- The forms of the fields of a line: CWR 2.2, transaction records.
use Rattle.std.specs.Prelude.{ℕ, ◌≡◌, ◌<◌, ◌-◌, ◌⊎◌, ◌==◌, ◌∷◌, List, All, [], codes, length, reverse, slice_index, slice_range, if◌then◌else◌}
use Rattle.csv_table.specs.Forms.{IsCode, IsNumber, IsPrintableByte, number_of}
use Rattle.cwr_share.specs.declared.fields.Field.{Field}
use Rattle.cwr_share.specs.declared.fields.ShareFields.{ShareFields}
use Rattle.line_split.specs.declared.TheConstants.{FULL_SHARE}

-- the bytes of a field, whose positions are counted from 1; fewer where the line ends before
abbrev pub field_of : Field → List ℕ → List ℕ
field_of field line = slice_range line (field.first - 1) field.last

-- a text without the spaces before it, and without those at both ends
unfoldable pub without_spaces_before : List ℕ → List ℕ
without_spaces_before [] = []
without_spaces_before (byte ∷ rest) = if byte == 32 then without_spaces_before rest else byte ∷ rest

abbrev pub trimmed : List ℕ → List ℕ
trimmed text = reverse (without_spaces_before (reverse (without_spaces_before text)))

-- printable ASCII, not all of it spaces
pub record IsFilled (field : List ℕ) : Type 0 where
  pub printable : All IsPrintableByte field
  pub some : 0 < length (trimmed field)

-- a share, in the five bytes of its field: digits that write at most 100.00 per cent in hundredths of a per cent, or spaces
abbrev pub IsShare : List ℕ → Type 0
IsShare field = (field ≡ codes "     ") ⊎ IsNumber FULL_SHARE field

-- its value; a blank one is 0
abbrev pub share_of : List ℕ → ℕ
share_of field = if slice_index field 0 == 32 then 0 else number_of field

-- I for included, E for excluded; a blank is I
abbrev pub IsMark : List ℕ → Type 0
IsMark field = (field ≡ codes "I") ⊎ (field ≡ codes "E") ⊎ (field ≡ codes " ")

-- the forms of the fields of a share line; a code has the four bytes of its field
abbrev pub HasParty : ShareFields → List ℕ → Type 0
HasParty fields line = IsFilled (field_of fields.party line)

abbrev pub HasShares : ShareFields → List ℕ → Type 0
HasShares fields line =
    IsShare (field_of fields.performing line) × IsShare (field_of fields.mechanical line) × IsShare (field_of fields.synchronisation line)

abbrev pub HasMark : ShareFields → List ℕ → Type 0
HasMark fields line = IsMark (field_of fields.mark line)

abbrev pub HasLand : ShareFields → List ℕ → Type 0
HasLand fields line = IsCode (field_of fields.territory line)
