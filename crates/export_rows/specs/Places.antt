-- Places in an export that is read row by row.
use Rattle.std.specs.Prelude.{ℕ, ◌≡◌, ◌⊎◌, ◌<◌, [], Any, List, None, Option, Some, IfSome, length, slice_index_or, true}
use Rattle.csv.specs.Machine.{next_record}
use Rattle.csv.specs.Reading.{AreRecords, Reached, ReadsNext, default_config, strip_bom}
use Rattle.csv.specs.declared.parser.Config.{Config}
use Rattle.csv.specs.declared.parser.State.{State}
use Rattle.csv.specs.declared.parser.State.TheVariants.{StartRecord}
use Rattle.export_rows.specs.declared.delimiter.Delimiter.{Delimiter}
use Rattle.export_rows.specs.declared.delimiter.Delimiter.TheVariants.{Comma, Semicolon, Tab, Pipe}

abbrev pub delimiter_byte : Delimiter → ℕ
delimiter_byte Comma = 44
delimiter_byte Semicolon = 59
delimiter_byte Tab = 9
delimiter_byte Pipe = 124

-- how the crate csv reads with its default settings, but for what stands between fields
abbrev pub config_of : Delimiter → Config
config_of delimiter = record default_config { delimiter = delimiter_byte delimiter }

-- these are the rows of an export, all of them and in order
abbrev pub AreRowsOf : Delimiter → (text : List ℕ) → List (List (List ℕ)) → Type 0
AreRowsOf delimiter text rows = AreRecords (config_of delimiter) StartRecord (strip_bom text) rows

-- no field of a row has a byte
abbrev pub IsBlank : List (List ℕ) → Type 0
IsBlank row = (place : ℕ) → place < length row → slice_index_or row place [] ≡ []

-- a byte that ends lines; within quotes it is one of a field
abbrev pub IsLineBreak : ℕ → Type 0
IsLineBreak byte = (byte ≡ 10) ⊎ (byte ≡ 13)

abbrev pub HasLineBreak : List (List ℕ) → Type 0
HasLineBreak row = (place : ℕ) × (place < length row) × Any IsLineBreak (slice_index_or row place [])

-- The row at hand, how the export is read, how far the reader has come within a row, and what is unread, where it is
-- known what there is to read.
pub record Place : Type 0 where
  pub row : List (List ℕ)
  pub config : Config
  pub state : State
  pub unread : Option (List ℕ)

-- one row was read
pub record Takes (from to : Place) : Type 0 where
  pub config : to.config ≡ from.config
  pub row : ReadsNext from.config from.state from.unread to.unread true to.row to.state

-- there was none
abbrev pub HasEnded : Place → Type 0
HasEnded place = IfSome place.unread (λ text. next_record place.config place.state [] [] text ≡ None)

-- these rows were read, from the start of an export on
abbrev pub HasRead : Delimiter → (from : Option (List ℕ)) → List (List (List ℕ)) → Place → Type 0
HasRead delimiter from rows place = (place.config ≡ config_of delimiter) × IfSome from (λ text. (rest : List ℕ)
    × (place.unread ≡ Some rest) × Reached (config_of delimiter) StartRecord (strip_bom text) rows place.state rest)
