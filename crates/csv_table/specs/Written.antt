-- A CSV text in the making.
use Rattle.std.specs.Prelude.{ℕ, ◌≡◌, Bool, true, false, List, [], ◌++◌, flat_map, length, Vec}
use Rattle.csv.specs.Writing.{row_text, default_writer, with_flexible, writer_setup, writer_under, writer_pending, fields_written, has_written}
use Rattle.csv.specs.declared.writer.Writer.{Writer}
use Rattle.csv.specs.declared.writer.WriterBuilder.{WriterBuilder}
use Rattle.std.specs.declared.alloc.Global.{Global}

-- a row of fields, as the crate csv writes it with its default settings
abbrev pub text_of_row : List (List ℕ) → List ℕ
text_of_row fields = row_text default_writer fields

-- rows, one after another
abbrev pub text_of : List (List (List ℕ)) → List ℕ
text_of rows = flat_map text_of_row rows

-- what a writer into a vector was given so far
abbrev pub written : Writer (Vec ℕ Global) → List ℕ
written out = (writer_under out).items ++ writer_pending out

-- how a writer writes with the default settings, but for rows of any number of fields
abbrev pub any_width : WriterBuilder
any_width = with_flexible default_writer true

-- such a writer that stands before a row
pub record IsBetweenRows (out : Writer (Vec ℕ Global)) : Type 0 where
  pub setup : writer_setup out ≡ any_width
  pub fields : fields_written out ≡ 0
  pub clean : has_written out ≡ false

-- Rows that wait to be passed on: their text, how many bytes of it have left the buffer of the writer of the crate csv, and whether a row or a write was refused.
pub record Page : Type 0 where
  pub text : List ℕ
  pub ready : ℕ
  pub has_failed : Bool

-- no rows yet, and none was refused
abbrev pub empty_page : Page
empty_page = record { text = []; ready = 0; has_failed = false }

-- the page of a writer into a vector
abbrev pub page_of : Writer (Vec ℕ Global) → Bool → Page
page_of out has_failed = record { text = written out; ready = length (writer_under out).items; has_failed = has_failed }

-- how many bytes have to be ready before a page goes on
abbrev pub page_bytes : ℕ
page_bytes = 131072
