-- Where the values of a row stand.
use Rattle.std.specs.Prelude.{ℕ, ◌<◌, [], List, length, slice_index_or, ⊤}
use Rattle.sales_lines.specs.declared.source.Source.{Source}
use Rattle.sales_lines.specs.declared.source.Source.TheVariants.{Place, Text}

-- the value in a row, empty where the row is too short to have it
abbrev pub text_from : Source → (row : List (List ℕ)) → List ℕ
text_from (Place place) row = slice_index_or row place []
text_from (Text text) row = text.items

-- a row has the field
abbrev pub IsThere : (row : List (List ℕ)) → Source → Type 0
IsThere row (Place place) = place < length row
IsThere row (Text text) = ⊤
