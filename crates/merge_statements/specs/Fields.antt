-- A row of four fields, and how a text begins with a field.
use Rattle.std.specs.Prelude.{ℕ, ◌≡◌, ◌==◌, ◌||◌, Bool, List, [], ◌∷◌, ◌++◌}
use Rattle.csv.specs.Writing.{default_writer, field_text}
use Rattle.merge_statements.specs.declared.row.Row.{Row}

-- the fields of a row
abbrev pub fields_of : Row → List (List ℕ)
fields_of row = row.kind.now ∷ row.payee_or_reason.now ∷ row.usage_or_count.now ∷ row.amount_or_total.now ∷ []

-- whether a byte is a comma
abbrev pub is_comma : ℕ → Bool
is_comma byte = byte == 44

-- whether a byte is a quote, a carriage return or a line feed
abbrev pub is_mark : ℕ → Bool
is_mark byte = (byte == 34) || (byte == 13) || (byte == 10)

-- what may stand behind a field: nothing, or a comma and more
abbrev pub IsBehindField : List ℕ → Type 0
IsBehindField [] = Unit {0}
IsBehindField (byte ∷ rest) = byte ≡ 44

-- what may stand behind the last quote of a field: no quote
abbrev pub IsBehindQuote : List ℕ → Type 0
IsBehindQuote [] = Unit {0}
IsBehindQuote (byte ∷ rest) = ¬ (byte ≡ 34)

-- a text is a field, as csv writes it with its default settings, and then the rest
pub record IsFieldAt (text field rest : List ℕ) : Type 0 where
  pub written : text ≡ field_text default_writer field ++ rest
  pub ends : IsBehindField rest
