-- A walk over rows.
use Rattle.std.specs.Prelude.{ℕ, ◌+◌, List, [], length, Option, Some, None}
use Rattle.std.specs.Borrow.{Bor}
use Rattle.csv.specs.Reading.{default_config, reader_state, records_from, source_of}
use Rattle.csv.specs.declared.parser.State.{State}
use Rattle.csv.specs.declared.reader.Reader.{Reader}

-- the row at hand, and those to come
pub record Walk : Type 0 where
  pub row : List (List ℕ)
  pub left : List (List (List ℕ))

-- the rows of what is unread, where that is known
abbrev pub rows_from : State → Option (List ℕ) → List (List (List ℕ))
rows_from state None = []
rows_from state (Some text) = records_from default_config (length text + 2) state text

-- what is unread of a text in memory is known
abbrev pub in_memory : Bor (List ℕ) → Option (List ℕ)
in_memory text = Some text.now

-- the rows that a reader has yet to give
abbrev pub rows_left : Reader (Bor (List ℕ)) → List (List (List ℕ))
rows_left reader = rows_from (reader_state reader) (source_of in_memory reader)
