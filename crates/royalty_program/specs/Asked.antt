-- What a command line asks for: a division in its plain form, with no options; or a run, its options in any order and
-- form that clap takes.
use Rattle.std.specs.Prelude.{ℕ, ◌≡◌, ◌≢◌, ◌⊎◌, ◌∷◌, ◌++◌, ◌||◌, Bool, true, false, List, [], All, IfSome, None, Some}
use Rattle.std.specs.Prelude.{drop, codes, if◌then◌else◌, map, nat_eq, slice_index, unwrap_or, Option}
use Rattle.std.specs.Option.{option_map}
use Rattle.std.specs.Cmp.Lexicographic.{pointwise}
use Rattle.std.specs.List.{list_any, starts_with}
use Rattle.std.specs.Str.Parse.{digits_value, without_leading_plus}
use Rattle.clap.specs.Words.{App, HasKind, IsAmong, all_of, fault_of, first_of, kind_of, matches_of, one_of}
use Rattle.clap.specs.declared.error.Error.{Error}
use Rattle.clap.specs.declared.error.kind.ErrorKind.TheVariants as kinds
use Rattle.pair_split.specs.Pair.{word_at}
use Rattle.run_inputs.specs.declared.inputs.Inputs.{Inputs}
use Rattle.royalty_program.specs.AdjustCommand.{adjust_app}
use Rattle.royalty_program.specs.CheckCommand.{check_app}
use Rattle.royalty_program.specs.ExplainCommand.{explain_app}
use Rattle.royalty_program.specs.MergeCommand.{AreWrongPaths, merge_app}
use Rattle.royalty_program.specs.NamedFiles.{AreNamed, name_in, path_in}
use Rattle.royalty_program.specs.RunCommand.{run_app}
use Rattle.royalty_program.specs.StartingCommand.{starting_app, starting_name}
use Rattle.royalty_program.specs.StatementsCommand.{statements_app, submitted_statements_app}
use Rattle.royalty_program.specs.SubmittedCommand.{submitted_app, submitted_check_app, submitted_explain_app}
use Rattle.starting_files.specs.declared.making.StartingTable.{StartingTable}
use Rattle.royalty_program.specs.SubmittedFiles.{SubmittedPaths}
use Rattle.split_run.specs.Plans.{Planned}

-- a value, and no option: the word does not begin with `-`
abbrev pub IsValue : List ℕ → Type 0
IsValue word = slice_index word 0 ≢ 45

-- the number that a word writes; a `+` may stand before it
abbrev pub number_in : List ℕ → ℕ
number_in word = digits_value 10 (without_leading_plus word)

-- the program's own name, `split`, and then values alone
pub record IsDivision (words : List (List ℕ)) : Type 0 where
  pub command : word_at words 1 ≡ codes "split"
  pub values : All IsValue (drop 2 words)

-- the amount of a division, and its words PARTY=SHARE
abbrev pub amount_of : List (List ℕ) → ℕ
amount_of words = number_in (word_at words 2)

abbrev pub pairs_of : List (List ℕ) → List (List ℕ)
pairs_of words = drop 3 words

-- What follows is of the words of a command from its name on, as clap reads them by its grammar. An option may stand
-- anywhere among them, and its value after a blank or a `=`: this is the path, and the number, that the option of a
-- name is given.
unfoldable pub path_given : App → (name : List ℕ) → List (List ℕ) → List ℕ
path_given app name words = unwrap_or (first_of name (matches_of app words)) []

-- the path of an option that need not be there
unfoldable pub path_if_given : App → (name : List ℕ) → List (List ℕ) → Option (List ℕ)
path_if_given app name words = first_of name (matches_of app words)

-- the paths of the files of a run
abbrev pub inputs_given : App → List (List ℕ) → Inputs (List ℕ)
inputs_given app words = record {
  territories = path_given app (codes "tis") words;
  payees = path_if_given app (codes "payees") words;
  registrations = path_given app (codes "cwr") words;
  usage = path_given app (codes "usage") words;
}

-- all the paths of an argument that takes several, in the order in which they stand
unfoldable pub paths_given : App → (name : List ℕ) → List (List ℕ) → List (List ℕ)
paths_given app name words = unwrap_or (all_of name (matches_of app words)) []

unfoldable pub number_given : App → (name : List ℕ) → List (List ℕ) → ℕ
number_given app name words = number_in (unwrap_or (one_of name (matches_of app words)) [])

-- the number, and the text, of an option that need not be there, or this where it is not there
unfoldable pub number_or : (missing : ℕ) → App → (name : List ℕ) → List (List ℕ) → ℕ
number_or missing app name words = unwrap_or (option_map number_in (one_of name (matches_of app words))) missing

unfoldable pub text_or : (missing : List ℕ) → App → (name : List ℕ) → List (List ℕ) → List ℕ
text_or missing app name words = unwrap_or (first_of name (matches_of app words)) missing

-- a text, if it is not empty
abbrev pub some_unless_empty : Option (List ℕ) → Option (List ℕ)
some_unless_empty None = None
some_unless_empty (Some []) = None
some_unless_empty (Some (byte ∷ bytes)) = Some (byte ∷ bytes)

-- the title of documents: the text of its option, or `Distribution` where that is not there or is empty
unfoldable pub title_given : App → List (List ℕ) → List ℕ
title_given app words = unwrap_or (some_unless_empty (first_of (codes "title") (matches_of app words))) (codes "Distribution")

-- clap comes upon a word that asks for help, or for the version
unfoldable pub AskForHelp : App → List (List ℕ) → Type 0
AskForHelp app words = IsAmong kinds.DisplayHelp (fault_of app words) ⊎ IsAmong kinds.DisplayVersion
    (fault_of app words)

-- clap finds nothing to refuse, and nothing that asks for help
unfoldable pub AreAccepted : App → List (List ℕ) → Type 0
AreAccepted app words = fault_of app words ≡ []

-- the error is one that clap has for the words, or memory was refused
unfoldable pub IsErrorOf : App → List (List ℕ) → Error → Type 0
IsErrorOf app words error = HasKind (fault_of app words) error

-- the plan of a run
abbrev pub plan_given : App → List (List ℕ) → Planned
plan_given app words = record {
  workers = number_given app (codes "workers") words;
  readers = number_given app (codes "readers") words;
  nodes = number_given app (codes "nodes") words;
}

-- where its numbers need not be there, it has 4 workers, 2 readers and 64 nodes unless the words have others
abbrev pub plan_or_usual : App → List (List ℕ) → Planned
plan_or_usual app words = record {
  workers = number_or 4 app (codes "workers") words;
  readers = number_or 2 app (codes "readers") words;
  nodes = number_or 64 app (codes "nodes") words;
}

-- A word is `--works`, or that with its value behind a `=`. Words of a run, of documents, of an explanation or of a
-- check that have one after the first are of a run over the files of several submitters, and are read by another
-- grammar: it has `--cwr NAME=F` as often as there are submitters.
abbrev pub is_works_word : List ℕ → Bool
is_works_word word = pointwise nat_eq word (codes "--works") || starts_with nat_eq word (codes "--works=")

abbrev pub name_works : List (List ℕ) → Bool
name_works words = list_any is_works_word (drop 1 words)

-- this of a run over one file, that of one over the files of several submitters
abbrev pub EitherRun : (several : Bool) → (one many : Type 0) → Type 0
EitherRun false one many = one
EitherRun true one many = many

-- the values of the option `--cwr`, of which each names a file
abbrev pub files_given : App → List (List ℕ) → List (List ℕ)
files_given app words = paths_given app (codes "cwr") words

-- the paths of the tables, and the names and paths of the files of the submitters
abbrev pub submitted_given : App → List (List ℕ) → SubmittedPaths
submitted_given app words = record {
  tables = record {
    territories = path_given app (codes "tis") words;
    payees = path_if_given app (codes "payees") words;
    works = path_given app (codes "works") words;
    usage = path_given app (codes "usage") words;
  };
  names = map name_in (files_given app words);
  files = map path_in (files_given app words);
}

-- the grammar of the words of a run
abbrev pub run_grammar : List (List ℕ) → App
run_grammar words = if name_works words then submitted_app else run_app

-- and of an explanation
abbrev pub explain_grammar : List (List ℕ) → App
explain_grammar words = if name_works words then submitted_explain_app else explain_app

-- and of a check
abbrev pub check_grammar : List (List ℕ) → App
check_grammar words = if name_works words then submitted_check_app else check_app

-- and of documents
abbrev pub statements_grammar : List (List ℕ) → App
statements_grammar words = if name_works words then submitted_statements_app else statements_app

-- the row that is explained
abbrev pub row_given : List (List ℕ) → ℕ
row_given words = number_given (explain_grammar words) (codes "row") words

-- the path of the output of a run, where one is named
abbrev pub run_output : List (List ℕ) → Option (List ℕ)
run_output words = path_if_given (run_grammar words) (codes "output") words

-- The words of a command line ask for a run over one file, and for no help.
pub record AskForRun (words : List (List ℕ)) : Type 0 where
  pub command : word_at words 1 ≡ codes "run"
  pub one_file : name_works (drop 1 words) ≡ false
  pub no_help : ¬ AskForHelp run_app (drop 1 words)

-- They ask for a run over the files of several submitters, and for no help.
pub record AskForSubmittedRun (words : List (List ℕ)) : Type 0 where
  pub command : word_at words 1 ≡ codes "run"
  pub several : name_works (drop 1 words) ≡ true
  pub no_help : ¬ AskForHelp submitted_app (drop 1 words)

-- clap accepts words, and the values of `--cwr` name the files of submitters
abbrev pub AreFilesAccepted : App → List (List ℕ) → Type 0
AreFilesAccepted app words = AreAccepted app words × AreNamed (files_given app words)

-- the words of a run are accepted
abbrev pub AreRunAccepted : List (List ℕ) → Type 0
AreRunAccepted words = EitherRun (name_works words) (AreAccepted run_app words) (AreFilesAccepted submitted_app words)

-- so are those of an explanation
abbrev pub AreExplainAccepted : List (List ℕ) → Type 0
AreExplainAccepted words =
    EitherRun (name_works words) (AreAccepted explain_app words) (AreFilesAccepted submitted_explain_app words)

-- and those of a check
abbrev pub AreCheckAccepted : List (List ℕ) → Type 0
AreCheckAccepted words =
    EitherRun (name_works words) (AreAccepted check_app words) (AreFilesAccepted submitted_check_app words)

-- They are a run that is accepted.
pub record AreRun (words : List (List ℕ)) : Type 0 where
  pub command : word_at words 1 ≡ codes "run"
  pub accepted : AreRunAccepted (drop 1 words)

-- clap accepts words, but the values of `--cwr` do not name the files of submitters
pub record NameWrongFiles (app : App) (words : List (List ℕ)) (error : Error) : Type 0 where
  pub accepted : AreAccepted app words
  pub files : ¬ AreNamed (files_given app words)
  pub kind : kind_of error ≡ kinds.ValueValidation

-- the error is one that clap has for the words, or of the files in them, or memory was refused
abbrev pub IsSubmittedError : App → List (List ℕ) → Error → Type 0
IsSubmittedError app words error = IsErrorOf app words error ⊎ NameWrongFiles app words error

abbrev pub IsRunError : List (List ℕ) → Error → Type 0
IsRunError words error =
    EitherRun (name_works words) (IsErrorOf run_app words error) (IsSubmittedError submitted_app words error)

abbrev pub IsExplainError : List (List ℕ) → Error → Type 0
IsExplainError words error =
    EitherRun (name_works words) (IsErrorOf explain_app words error)
    (IsSubmittedError submitted_explain_app words error)

abbrev pub IsCheckError : List (List ℕ) → Error → Type 0
IsCheckError words error =
    EitherRun (name_works words) (IsErrorOf check_app words error) (IsSubmittedError submitted_check_app words error)

abbrev pub IsStatementsError : List (List ℕ) → Error → Type 0
IsStatementsError words error =
    EitherRun (name_works words) (IsErrorOf statements_app words error)
    (IsSubmittedError submitted_statements_app words error)

-- The words of a command line ask for the explanation of a line, in a run over one file or over those of several
-- submitters, and for no help.
pub record AskForExplanation (words : List (List ℕ)) : Type 0 where
  pub command : word_at words 1 ≡ codes "explain"
  pub no_help : ¬ AskForHelp (explain_grammar (drop 1 words)) (drop 1 words)

-- The words of a command line ask for a check of the files, of a run over one file or over those of several submitters,
-- and for no help.
pub record AskForCheck (words : List (List ℕ)) : Type 0 where
  pub command : word_at words 1 ≡ codes "check"
  pub no_help : ¬ AskForHelp (check_grammar (drop 1 words)) (drop 1 words)

-- The words of a command line ask for a table to begin with, and for no help.
pub record AskForTable (table : StartingTable) (words : List (List ℕ)) : Type 0 where
  pub command : word_at words 1 ≡ starting_name table
  pub no_help : ¬ AskForHelp (starting_app table) (drop 1 words)

-- The words of a command line ask for a merge, and for no help.
pub record AskForMerge (words : List (List ℕ)) : Type 0 where
  pub command : word_at words 1 ≡ codes "merge"
  pub no_help : ¬ AskForHelp merge_app (drop 1 words)

-- The words of a command line ask for an adjustment, and for no help.
pub record AskForAdjustment (words : List (List ℕ)) : Type 0 where
  pub command : word_at words 1 ≡ codes "adjust"
  pub no_help : ¬ AskForHelp adjust_app (drop 1 words)

-- the paths of its texts, of what was paid and of what is right, and of its output, where one is named
abbrev pub paid_given : List (List ℕ) → List ℕ
paid_given words = path_given adjust_app (codes "PAID") words

abbrev pub right_given : List (List ℕ) → List ℕ
right_given words = path_given adjust_app (codes "RIGHT") words

abbrev pub adjust_output : List (List ℕ) → Option (List ℕ)
adjust_output words = path_if_given adjust_app (codes "output") words

-- clap accepts the words of a merge, but they name too many files, or one of them twice
pub record NameWrongPaths (words : List (List ℕ)) (error : Error) : Type 0 where
  pub accepted : AreAccepted merge_app words
  pub paths : AreWrongPaths (paths_given merge_app (codes "statements") words)
  pub kind : kind_of error ≡ kinds.ValueValidation

-- the error is one that clap has for the words of a merge, or of the paths in them, or memory was refused
abbrev pub IsMergeError : List (List ℕ) → Error → Type 0
IsMergeError words error = IsErrorOf merge_app words error ⊎ NameWrongPaths words error

-- the option of a table of payees, where there is one
abbrev pub payees_words : Option (List ℕ) → List (List ℕ)
payees_words None = []
payees_words (Some path) = codes "--payees" ∷ path ∷ []

-- The plain form of a run: the word `run`, and then its options in this order, each with a value. That of the payees
-- may be left out.
pub record AreRunWords (words : List (List ℕ)) : Type 0 where
  pub name : List ℕ
  pub tis : List ℕ
  pub payees : Option (List ℕ)
  pub cwr : List ℕ
  pub usage : List ℕ
  pub workers : List ℕ
  pub readers : List ℕ
  pub nodes : List ℕ
  pub form : words ≡ name ∷ codes "--tis" ∷ tis ∷ (payees_words payees ++ codes "--cwr" ∷ cwr ∷ codes "--usage" ∷ usage
      ∷ codes "--workers" ∷ workers ∷ codes "--readers" ∷ readers ∷ codes "--nodes" ∷ nodes ∷ [])
  pub values : All IsValue (tis ∷ cwr ∷ usage ∷ workers ∷ readers ∷ nodes ∷ [])
  pub payees_value : IfSome payees IsValue

-- the program's own name, and the words of a run in their plain form
pub record IsRun (words : List (List ℕ)) : Type 0 where
  pub command : word_at words 1 ≡ codes "run"
  pub options : AreRunWords (drop 1 words)

-- the paths of its files
abbrev pub paths_in_order : {words : List (List ℕ)} → AreRunWords words → Inputs (List ℕ)
paths_in_order run = record { territories = run.tis; payees = run.payees; registrations = run.cwr; usage = run.usage }
