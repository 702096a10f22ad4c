-- What a buffer of lines holds.
use Rattle.std.specs.Prelude.{ℕ, ◌==◌, Bool, List}
use Rattle.std.specs.List.{slice_range}
use Rattle.merge_statements.specs.declared.buffer.Buffer.{Buffer}

-- whether a byte is a line feed
abbrev pub is_feed : ℕ → Bool
is_feed byte = byte == 10

-- the line at hand
abbrev pub line_of : Buffer → List ℕ
line_of buffer = slice_range buffer.bytes.items buffer.start buffer.end

-- what was read and not yet given
abbrev pub waiting_of : Buffer → List ℕ
waiting_of buffer = slice_range buffer.bytes.items buffer.at buffer.filled
