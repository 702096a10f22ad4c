-- What the command of an import asks of its words, and what they say.
use Rattle.std.specs.List.{list_all, list_any}
use Rattle.std.specs.Option.{option_map}
use Rattle.std.specs.Borrow.{Bor}
use Rattle.std.specs.Str.{bytes_eq}
use Rattle.std.specs.Prelude.{ℕ, ◌≡◌, ◌==◌, ◌⊎◌, ◌↔◌, ◌-◌, ◌++◌, ◌∷◌, ◌&&◌, ◌||◌, [], Bool, IsTrue, List, None, Option, Some, codes, not}
use Rattle.std.specs.Prelude.{if◌then◌else◌, length, map, nat_le, slice_index, string_bytes, true, ⊤}
use Rattle.clap.specs.Words.{App, Rule, kind_of, new_app, new_rule, with_rule}
use Rattle.clap.specs.declared.builder.action.ArgAction.TheVariants.{Append, Set, SetTrue}
use Rattle.clap.specs.declared.builder.arg.Arg.{Arg}
use Rattle.clap.specs.declared.builder.command.Command.{Command}
use Rattle.clap.specs.declared.error.Error.{Error}
use Rattle.clap.specs.declared.error.kind.ErrorKind.TheVariants as kinds
use Rattle.decimal_amounts.specs.declared.amount.Mark.{Mark}
use Rattle.decimal_amounts.specs.declared.amount.Mark.TheVariants as mark
use Rattle.export_rows.specs.declared.delimiter.Delimiter.{Delimiter}
use Rattle.export_rows.specs.declared.delimiter.Delimiter.TheVariants as between
use Rattle.royalty_program.specs.Args.{HasArgs, file_rule, optional_rule}
use Rattle.royalty_program.specs.Asked.{AreAccepted, IsErrorOf, path_if_given, paths_given, text_or}
use Rattle.royalty_program.specs.NamedFiles.{name_in, path_in}
use Rattle.royalty_program.specs.SubmittedCommand.{files_rule}
use Rattle.royalty_program.specs.declared.import_command.ImportWords.{ImportWords}
use Rattle.royalty_program.specs.declared.import_command.MapPaths.{MapPaths}
use Rattle.royalty_program.specs.declared.import_command.TablePaths.{TablePaths}
use Rattle.sales_import.specs.declared.mapping.Mapping.{Mapping}
use Rattle.sales_import.specs.declared.mapping.Wanted.{Wanted}

-- ---- what a parse reads of each argument

abbrev pub export_rule : Rule
export_rule = record (new_rule (codes "EXPORT")) { action = Some Set; required = true }

abbrev pub where_rule : Rule
where_rule = record (optional_rule (codes "where")) { action = Some Append }

abbrev pub flag_rule : (name : List ℕ) → Rule
flag_rule name = record (new_rule name) { long = Some name; action = Some SetTrue }

-- of the export, and of the options that say where values stand
abbrev pub add_columns : App → App
add_columns app = with_rule (with_rule (with_rule (with_rule (with_rule (with_rule (with_rule app export_rule)
    (files_rule (codes "usage"))) (file_rule (codes "work"))) (file_rule (codes "territory")))
    (file_rule (codes "right"))) (file_rule (codes "amount"))) where_rule

-- of those of tables of values
abbrev pub add_tables : App → App
add_tables app = with_rule (with_rule (with_rule app (optional_rule (codes "works")))
    (optional_rule (codes "territories"))) (optional_rule (codes "rights"))

-- of those of how an export and its amounts are written
abbrev pub add_forms : App → App
add_forms app = with_rule (with_rule (with_rule (with_rule app (optional_rule (codes "decimals")))
    (flag_rule (codes "decimal-comma"))) (optional_rule (codes "delimiter"))) (flag_rule (codes "no-header"))

-- and of those of the files that are written
abbrev pub add_targets : App → App
add_targets app = with_rule (with_rule app (file_rule (codes "output"))) (file_rule (codes "rejects"))

abbrev pub import_app : App
import_app = add_targets (add_forms (add_tables (add_columns (new_app (codes "import")))))

-- the names of these arguments
abbrev pub column_names : List (List ℕ)
column_names = codes "EXPORT" ∷ codes "usage" ∷ codes "work" ∷ codes "territory" ∷ codes "right" ∷ codes "amount"
    ∷ codes "where" ∷ []

abbrev pub table_names : List (List ℕ)
table_names = codes "works" ∷ codes "territories" ∷ codes "rights" ∷ []

abbrev pub form_names : List (List ℕ)
form_names = codes "decimals" ∷ codes "decimal-comma" ∷ codes "delimiter" ∷ codes "no-header" ∷ []

abbrev pub target_names : List (List ℕ)
target_names = codes "output" ∷ codes "rejects" ∷ []

abbrev pub import_names : List (List ℕ)
import_names = column_names ++ (table_names ++ (form_names ++ target_names))

-- a command has arguments of these names behind those that it had
pub record AddsArgs (names : List (List ℕ)) (add : App → App) (old new : Command) : Type 0 where
  pub own : List Arg
  pub ids : map (λ a. a.id.now) own ≡ names
  pub has : (before : List Arg) (app : App) → HasArgs old before app → HasArgs new (before ++ own) (add app)

-- the command has these arguments
pub record IsImportCommand (c : Command) : Type 0 where
  pub args : List Arg
  pub ids : map (λ a. a.id.now) args ≡ import_names
  pub has : HasArgs c args import_app

-- ---- what values say

-- the values that an option has, none where it is not given
abbrev pub texts_of : Option (Bor (List (Bor (List ℕ)))) → List (List ℕ)
texts_of None = []
texts_of (Some values) = map (λ value. value.now) values.now

-- a value of `--where` has a `=` that does not come first
abbrev pub is_condition : List ℕ → Bool
is_condition value = list_any (λ byte. byte == 61) value && not (slice_index value 0 == 61)

-- the column before the first `=`, and the text behind it
abbrev pub IsWanted : (value : List ℕ) → Wanted → Type 0
IsWanted value wanted = (string_bytes wanted.column ≡ name_in value) × (string_bytes wanted.text ≡ path_in value)

abbrev pub AreWanted : (values : List (List ℕ)) → List Wanted → Type 0
AreWanted [] [] = ⊤
AreWanted (value ∷ values) (wanted ∷ others) = IsWanted value wanted × AreWanted values others
AreWanted _ _ = ⊥

abbrev pub is_delimiter : List ℕ → Bool
is_delimiter name = bytes_eq name (codes "comma") || (bytes_eq name (codes "semicolon")
    || (bytes_eq name (codes "tab") || bytes_eq name (codes "pipe")))

abbrev pub delimiter_of : List ℕ → Delimiter
delimiter_of name = if bytes_eq name (codes "semicolon") then between.Semicolon else (if bytes_eq name (codes "tab")
    then between.Tab else (if bytes_eq name (codes "pipe") then between.Pipe else between.Comma))

abbrev pub mark_of : (is_comma : Bool) → Mark
mark_of is_comma = if is_comma then mark.Comma else mark.Point

-- one digit
abbrev pub is_digit_text : List ℕ → Bool
is_digit_text text = (length text == 1) && (nat_le 48 (slice_index text 0) && nat_le (slice_index text 0) 57)

abbrev pub digit_of : List ℕ → ℕ
digit_of text = if is_digit_text text then slice_index text 0 - 48 else 2

-- ---- what the words give

-- an option without a value stands among them
abbrev pub IsFlagged : (name : List ℕ) → List (List ℕ) → Type 0
IsFlagged name words = path_if_given import_app name words ≡ Some (codes "true")

-- how rows are mapped
pub record IsMappingFrom (words : List (List ℕ)) (mapping : Mapping) : Type 0 where
  pub delimiter : mapping.delimiter ≡ delimiter_of (text_or (codes "comma") import_app (codes "delimiter") words)
  pub has_header : IsTrue mapping.has_header ↔ (¬ IsFlagged (codes "no-header") words)
  pub wanted : AreWanted (paths_given import_app (codes "where") words) mapping.wanted.items
  pub usage : map string_bytes mapping.usage.items ≡ paths_given import_app (codes "usage") words
  pub work : string_bytes mapping.work ≡ text_or [] import_app (codes "work") words
  pub territory : string_bytes mapping.territory ≡ text_or [] import_app (codes "territory") words
  pub right : string_bytes mapping.right ≡ text_or [] import_app (codes "right") words
  pub amount : string_bytes mapping.amount ≡ text_or [] import_app (codes "amount") words
  pub comma : (mapping.mark ≡ mark.Comma) ↔ IsFlagged (codes "decimal-comma") words
  pub places : mapping.places ≡ digit_of (text_or (codes "2") import_app (codes "decimals") words)

-- the paths of the tables of values
pub record AreMapPathsFrom (words : List (List ℕ)) (maps : MapPaths) : Type 0 where
  pub works : option_map string_bytes maps.works ≡ path_if_given import_app (codes "works") words
  pub territories : option_map string_bytes maps.territories ≡ path_if_given import_app (codes "territories") words
  pub rights : option_map string_bytes maps.rights ≡ path_if_given import_app (codes "rights") words

-- and of the tables that are read and written
pub record AreTablePathsFrom (words : List (List ℕ)) (tables : TablePaths) : Type 0 where
  pub export : string_bytes tables.export ≡ text_or [] import_app (codes "EXPORT") words
  pub output : string_bytes tables.output ≡ text_or [] import_app (codes "output") words
  pub rejects : string_bytes tables.rejects ≡ text_or [] import_app (codes "rejects") words

-- the files and the mapping are those of the words
pub record AreImportFrom (words : List (List ℕ)) (asked : ImportWords) : Type 0 where
  pub tables : AreTablePathsFrom words asked.tables
  pub maps : AreMapPathsFrom words asked.maps
  pub mapping : IsMappingFrom words asked.mapping

-- ---- what is wrong with words

-- the values that clap takes as they are say something
abbrev pub AreSound : List (List ℕ) → Type 0
AreSound words = IsTrue (list_all is_condition (paths_given import_app (codes "where") words))
    × IsTrue (is_delimiter (text_or (codes "comma") import_app (codes "delimiter") words))
    × IsTrue (is_digit_text (text_or (codes "2") import_app (codes "decimals") words))

-- clap accepts words, but a value says nothing
pub record SayNothing (words : List (List ℕ)) (error : Error) : Type 0 where
  pub accepted : AreAccepted import_app words
  pub unsound : ¬ AreSound words
  pub kind : kind_of error ≡ kinds.ValueValidation

abbrev pub IsImportError : List (List ℕ) → Error → Type 0
IsImportError words error = IsErrorOf import_app words error ⊎ SayNothing words error
