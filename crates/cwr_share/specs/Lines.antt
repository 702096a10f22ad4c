-- The lines of a file.
use Rattle.std.specs.Prelude.{ℕ, ◌-◌, ◌==◌, List, length, map, slice_index, take, if◌then◌else◌}
use Rattle.csv_table.specs.Pieces.{pieces_at}

-- a line without the one carriage return at its end
abbrev pub without_return : List ℕ → List ℕ
without_return line = if slice_index line (length line - 1) == 13 then take (length line - 1) line else line

-- the lines of a text, without their ends; a text that ends in a line feed has no line after it
abbrev pub lines_of : List ℕ → List (List ℕ)
lines_of bytes = map without_return (pieces_at 10 bytes)
