-- A writer that lets rows have any number of fields writes each of them as the default writer does.
use Rattle.std.proofs.Common.{◌≡◌, ◌∷◌, [], ℕ, List, refl}
use Rattle.csv.specs.Writing.{default_writer, escaped, field_text, fields_text, is_blank, row_body, row_text}
use Rattle.csv_table.specs.Written.{any_width}

same_escaped : (field : List ℕ) → escaped any_width field ≡ escaped default_writer field
unfolding escaped
same_escaped [] = refl
same_escaped (b ∷ rest) = rw (same_escaped rest) refl

same_field : (field : List ℕ) → field_text any_width field ≡ field_text default_writer field
same_field field = rw (same_escaped field) refl

same_fields : (fields : List (List ℕ)) → fields_text any_width fields ≡ fields_text default_writer fields
unfolding fields_text
same_fields [] = refl
same_fields (field ∷ rest) = rw (same_field field, same_fields rest) refl

same_blank : (fields : List (List ℕ)) → is_blank any_width fields ≡ is_blank default_writer fields
unfolding is_blank
same_blank [] = refl
same_blank (field ∷ []) = rw (same_field field) refl
same_blank (field ∷ next ∷ rest) = refl

same_body : (fields : List (List ℕ)) → row_body any_width fields ≡ row_body default_writer fields
same_body [] = refl
same_body (field ∷ rest) = rw (same_field field, same_fields rest) refl

pub same_row : (fields : List (List ℕ)) → row_text any_width fields ≡ row_text default_writer fields
same_row fields = rw (same_body fields, same_blank fields) refl
