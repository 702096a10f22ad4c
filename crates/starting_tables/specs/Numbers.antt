-- Standard numbers as fields have them.
use Rattle.std.specs.Prelude.{ℕ, ◌==◌, ◌&&◌, Bool, List, drop, length, not, slice_index}
use Rattle.std.specs.List.{list_all, list_any}
use Rattle.std.specs.Char.{is_ascii_digit}

-- so many digits that are not all 0
abbrev pub is_number : (digits : ℕ) → List ℕ → Bool
is_number digits text =
    (length text == digits) && list_all is_ascii_digit text && list_any (λ byte. not (byte == 48)) text

-- an ISWC: `T` and ten digits that are not all 0
abbrev pub is_iswc : List ℕ → Bool
is_iswc text = (slice_index text 0 == 84) && is_number 10 (drop 1 text)
