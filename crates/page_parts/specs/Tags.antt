-- The tags that begin a row of a table: one with an amount below 0 stands out.
use Rattle.std.specs.Prelude.{ℕ, Bool, List, codes, if◌then◌else◌}

abbrev pub row_tag_text : (is_negative : Bool) → List ℕ
row_tag_text is_negative = if is_negative then codes "<tr class=\"neg\">" else codes "<tr>"

-- the row of a work, or of what all works come to
abbrev pub work_tag_text : (is_negative : Bool) → List ℕ
work_tag_text is_negative = if is_negative then codes "<tr class=\"work neg\">" else codes "<tr class=\"work\">"
