-- The ends of the lines of a CWR file.
use Rattle.std.specs.Prelude.{ℕ, ◌&&◌, ◌==◌, Bool, List, not}
use Rattle.std.specs.List.{list_any}

abbrev pub has_byte : ℕ → List ℕ → Bool
has_byte byte bytes = list_any (λ other. other == byte) bytes

-- there are carriage returns and no line feed: all of it reads as one line
abbrev pub has_returns_alone : List ℕ → Bool
has_returns_alone bytes = has_byte 13 bytes && not (has_byte 10 bytes)
