-- Quotes in a CSV text that open and do not end.
use Rattle.std.specs.Prelude.{ℕ, ◌-◌, Bool, true, false, List, Option, None, Some, fold, if◌then◌else◌, length}
use Rattle.csv.specs.Machine.{step}
use Rattle.csv.specs.Reading.{default_config, strip_bom}
use Rattle.csv.specs.declared.parser.State.{State}
use Rattle.csv.specs.declared.parser.State.TheVariants as st
use Rattle.csv_table.specs.Table.{rows_of}

-- where a reader stands behind a text
abbrev pub state_after : List ℕ → State
state_after text = fold (λ state byte. (step default_config state byte).0) st.StartRecord (strip_bom text)

abbrev pub is_in_quotes : State → Bool
is_in_quotes st.InQuoted = true
is_in_quotes _ = false

-- the row in which a quote opens that does not end, which is the last; the first, the header, is row 0
abbrev pub open_quote : List ℕ → Option ℕ
open_quote text = if is_in_quotes (state_after text) then Some (length (rows_of text) - 1) else None
