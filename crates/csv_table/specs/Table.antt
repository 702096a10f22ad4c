-- The rows of a CSV text.
use Rattle.std.specs.Prelude.{ℕ, ◌≡◌, List, All}
use Rattle.csv.specs.Reading.{default_config, records, strip_bom}

-- the rows of a text, each a list of fields, as the crate csv reads them with its default settings; the first row is a row like any other
abbrev pub rows_of : List ℕ → List (List (List ℕ))
rows_of text = records default_config (strip_bom text)

-- no field of a row has a line feed in it
abbrev pub HasNoLineFeed : List (List ℕ) → Type 0
HasNoLineFeed row = All (All (λ byte. ¬ (byte ≡ 10))) row

-- nor has any of several rows
abbrev pub HaveNoLineFeed : List (List (List ℕ)) → Type 0
HaveNoLineFeed rows = All HasNoLineFeed rows
