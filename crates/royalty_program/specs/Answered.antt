-- What is read of a command line, and what answers it.
use Rattle.std.specs.Prelude.{ℕ, ◌≡◌, ◌<◌, ◌≤◌, ◌⊎◌, [], Bool, true, List, None}
use Rattle.std.specs.Prelude.{IfSome, Option, Some, codes, drop, length, map, string_bytes, ⊤}
use Rattle.std.specs.Option.{option_map}
use Rattle.std.specs.Io.KnownBytes.{Appends, Keeps}
use Rattle.line_split.specs.declared.TheConstants.{MOST_AMOUNT}
use Rattle.clap.specs.Words.{App}
use Rattle.royalty_program.specs.RunCommand.{run_app}
use Rattle.royalty_program.specs.Asked.{AreRunWords, AreAccepted, AskForAdjustment, AskForCheck, AskForExplanation}
use Rattle.royalty_program.specs.Asked.{AskForMerge, AskForRun, AskForSubmittedRun, AskForTable, EitherRun, IsDivision}
use Rattle.royalty_program.specs.Asked.{IsRun}
use Rattle.royalty_program.specs.Asked.{amount_of, files_given, inputs_given, name_works, number_in, pairs_of}
use Rattle.royalty_program.specs.Asked.{path_if_given, paths_given, paths_in_order, plan_given, row_given, run_grammar}
use Rattle.royalty_program.specs.Asked.{run_output, submitted_given}
use Rattle.royalty_program.specs.Asked.{adjust_output, number_or, paid_given, path_given, plan_or_usual, right_given}
use Rattle.royalty_program.specs.Asked.{statements_grammar, text_or, title_given}
use Rattle.royalty_program.specs.AdjustCommand.{adjust_app}
use Rattle.royalty_program.specs.AdjustFiles.{IsAdjustmentOver, IsNeither}
use Rattle.run_inputs.specs.Inputs.{map_inputs}
use Rattle.run_inputs.specs.declared.inputs.Inputs.{Inputs}
use Rattle.pair_split.specs.PairFault.{AreSound}
use Rattle.pair_split.specs.Pair.{word_at}
use Rattle.pair_split.specs.Rows.{split_text}
use Rattle.royalty_program.specs.CheckCommand.{check_app}
use Rattle.royalty_program.specs.ExplainCommand.{explain_app}
use Rattle.royalty_program.specs.MergeCommand.{AreFewAndDifferent, merge_app}
use Rattle.royalty_program.specs.MergeFiles.{IsMergeOver}
use Rattle.royalty_program.specs.OutputPath.{IsNoInput}
use Rattle.royalty_program.specs.Files.{AreStatementsOver, IsExplanationOver, IsReportOver}
use Rattle.royalty_program.specs.NamedFiles.{AreNamedBy}
use Rattle.royalty_program.specs.StartingCommand.{starting_app, starting_name}
use Rattle.royalty_program.specs.StatementsCommand.{MOST_DECIMALS, statements_app, submitted_statements_app}
use Rattle.royalty_program.specs.SubmittedCommand.{submitted_app, submitted_check_app, submitted_explain_app}
use Rattle.royalty_program.specs.SubmittedFiles.{AreSubmittedStatementsOver, IsNoneOf, IsSubmittedExplanationOver}
use Rattle.royalty_program.specs.SubmittedFiles.{IsSubmittedReportOver, IsTableOver, SubmittedPaths, paths_of}
use Rattle.royalty_program.specs.declared.starting_command.StartingWords.{StartingWords}
use Rattle.starting_files.specs.declared.making.StartingTable.{StartingTable}
use Rattle.royalty_program.specs.declared.inputs.RunInputs.{RunInputs}
use Rattle.royalty_program.specs.declared.inputs.RunInputs.TheVariants.{OneFile, Submitted}
use Rattle.royalty_program.specs.declared.commands.Asked.{Asked}
use Rattle.royalty_program.specs.declared.commands.Asked.TheVariants.{Check, Division, Explanation, Merge, Run}
use Rattle.royalty_program.specs.declared.commands.Asked.TheVariants.{Starting}
use Rattle.royalty_program.specs.ImportCommand.{AreImportFrom}
use Rattle.royalty_program.specs.declared.commands.Asked.TheVariants.{Adjustment, Import, Statements}
use Rattle.royalty_program.specs.declared.adjust_command.AdjustWords.{AdjustWords}
use Rattle.royalty_program.specs.declared.explain_command.ExplainWords.{ExplainWords}
use Rattle.royalty_program.specs.declared.merge_command.MergeWords.{MergeWords}
use Rattle.royalty_program.specs.declared.run_command.RunWords.{RunWords}
use Rattle.royalty_program.specs.declared.statements_command.StatementsWords.{StatementsWords}

-- the command is the one that the word names
abbrev pub IsNamedBy : List ℕ → Asked → Type 0
IsNamedBy word (Division asked) = word ≡ codes "split"
IsNamedBy word (Run asked) = word ≡ codes "run"
IsNamedBy word (Statements asked) = word ≡ codes "statements"
IsNamedBy word (Explanation asked) = word ≡ codes "explain"
IsNamedBy word (Check asked) = word ≡ codes "check"
IsNamedBy word (Merge asked) = word ≡ codes "merge"
IsNamedBy word (Adjustment asked) = word ≡ codes "adjust"
IsNamedBy word (Starting asked) = word ≡ starting_name asked.table
IsNamedBy word (Import asked) = word ≡ codes "import"

-- an amount that is divided is in range, and so are the decimal places of documents and of an import
abbrev pub IsInRange : Asked → Type 0
IsInRange (Division asked) = asked.amount ≤ MOST_AMOUNT
IsInRange (Statements asked) = asked.decimals ≤ MOST_DECIMALS
IsInRange (Import asked) = asked.mapping.places ≤ 9
IsInRange _ = ⊤

-- the amount and the pairs are those of the words
abbrev pub IsDivisionOf : List (List ℕ) → Asked → Type 0
IsDivisionOf words (Division asked) = (asked.amount ≡ amount_of words)
    × (map string_bytes asked.pairs.items ≡ pairs_of words)
IsDivisionOf words _ = ⊥

-- the inputs are those of one file with these paths, or of several submitters with these
abbrev pub AreOneFile : Inputs (List ℕ) → RunInputs → Type 0
AreOneFile paths (OneFile inputs) = map_inputs string_bytes inputs ≡ paths
AreOneFile paths (Submitted inputs) = ⊥

abbrev pub AreSubmitted : SubmittedPaths → RunInputs → Type 0
AreSubmitted paths (OneFile inputs) = ⊥
AreSubmitted paths (Submitted inputs) = paths_of inputs ≡ paths

-- the paths and the numbers are those that the options of a run are given
pub record AreReadFrom (words : List (List ℕ)) (asked : RunWords) : Type 0 where
  pub inputs : EitherRun (name_works words) (AreOneFile (inputs_given run_app words) asked.inputs)
      (AreSubmitted (submitted_given submitted_app words) asked.inputs)
  pub plan : asked.plan ≡ plan_given (run_grammar words) words
  pub output : option_map string_bytes asked.output ≡ run_output words

-- and in the plain form they are the values after the options, with no path of an output
pub record AreReadInOrder (words : List (List ℕ)) (run : AreRunWords words) (asked : RunWords) : Type 0 where
  pub inputs : AreOneFile (paths_in_order run) asked.inputs
  pub plan : asked.plan ≡ record {
    workers = number_in run.workers;
    readers = number_in run.readers;
    nodes = number_in run.nodes;
  }
  pub output : asked.output ≡ None

abbrev pub IsRunOf : List (List ℕ) → Asked → Type 0
IsRunOf words (Run asked) = AreReadFrom (drop 1 words) asked
IsRunOf words _ = ⊥

abbrev pub IsRunInOrder : (words : List (List ℕ)) → AreRunWords (drop 1 words) → Asked → Type 0
IsRunInOrder words run (Run asked) = AreReadInOrder (drop 1 words) run asked
IsRunInOrder words run _ = ⊥

-- how documents are made and written is what the options are given, or as usual where they are not there
pub record AreChosenFrom (app : App) (words : List (List ℕ)) (asked : StatementsWords) : Type 0 where
  pub plan : asked.plan ≡ plan_or_usual app words
  pub to : string_bytes asked.to ≡ path_given app (codes "to") words
  pub names : option_map string_bytes asked.names ≡ path_if_given app (codes "names") words
  pub title : string_bytes asked.title ≡ title_given app words
  pub currency : string_bytes asked.currency ≡ text_or [] app (codes "currency") words
  pub decimals : asked.decimals ≡ number_or 2 app (codes "decimals") words

-- and the paths of the files of the run are those that the options are given
pub record AreDocumentsFrom (words : List (List ℕ)) (asked : StatementsWords) : Type 0 where
  pub inputs : EitherRun (name_works words) (AreOneFile (inputs_given statements_app words) asked.inputs)
      (AreSubmitted (submitted_given submitted_statements_app words) asked.inputs)
  pub chosen : AreChosenFrom (statements_grammar words) words asked

abbrev pub IsStatementsAsked : List (List ℕ) → Asked → Type 0
IsStatementsAsked words (Statements asked) = AreDocumentsFrom (drop 1 words) asked
IsStatementsAsked words _ = ⊥

-- the paths and the row are those that the options of an explanation are given
pub record AreExplainedFrom (words : List (List ℕ)) (asked : ExplainWords) : Type 0 where
  pub inputs : EitherRun (name_works words) (AreOneFile (inputs_given explain_app words) asked.inputs)
      (AreSubmitted (submitted_given submitted_explain_app words) asked.inputs)
  pub row : asked.row ≡ row_given words

abbrev pub IsExplanationAsked : List (List ℕ) → Asked → Type 0
IsExplanationAsked words (Explanation asked) = AreExplainedFrom (drop 1 words) asked
IsExplanationAsked words _ = ⊥

-- the paths are those that the options of a check are given
abbrev pub AreCheckedFrom : List (List ℕ) → RunInputs → Type 0
AreCheckedFrom words inputs = EitherRun (name_works words) (AreOneFile (inputs_given check_app words) inputs)
    (AreSubmitted (submitted_given submitted_check_app words) inputs)

abbrev pub IsCheckAsked : List (List ℕ) → Asked → Type 0
IsCheckAsked words (Check inputs) = AreCheckedFrom (drop 1 words) inputs
IsCheckAsked words _ = ⊥

-- The paths are those that a merge is given, all of them in their order: they are one or more, no more than are merged
-- at once, and each stands once.
pub record AreMergeFrom (words : List (List ℕ)) (asked : MergeWords) : Type 0 where
  pub accepted : AreAccepted merge_app words
  pub output : option_map string_bytes asked.output ≡ path_if_given merge_app (codes "output") words
  pub statements : map string_bytes asked.statements.items ≡ paths_given merge_app (codes "statements") words
  pub some : 0 < length asked.statements.items
  pub different : AreFewAndDifferent (map string_bytes asked.statements.items)

abbrev pub IsMergeAsked : List (List ℕ) → Asked → Type 0
IsMergeAsked words (Merge asked) = AreMergeFrom (drop 1 words) asked
IsMergeAsked words _ = ⊥

-- the paths are those that an adjustment is given
pub record AreAdjustFrom (words : List (List ℕ)) (asked : AdjustWords) : Type 0 where
  pub accepted : AreAccepted adjust_app words
  pub output : option_map string_bytes asked.output ≡ adjust_output words
  pub paid : string_bytes asked.paid ≡ paid_given words
  pub right : string_bytes asked.right ≡ right_given words

abbrev pub IsAdjustmentAsked : List (List ℕ) → Asked → Type 0
IsAdjustmentAsked words (Adjustment asked) = AreAdjustFrom (drop 1 words) asked
IsAdjustmentAsked words _ = ⊥

-- the table is the one that is asked for, and its files are those that its option names
pub record AreStarting (table : StartingTable) (words : List (List ℕ)) (asked : StartingWords) : Type 0 where
  pub table_is : asked.table ≡ table
  pub files : AreNamedBy (files_given (starting_app table) words) asked.files

abbrev pub IsTableAsked : (table : StartingTable) → List (List ℕ) → Asked → Type 0
IsTableAsked table words (Starting asked) = AreStarting table (drop 1 words) asked
IsTableAsked table words _ = ⊥

abbrev pub IsImportAsked : List (List ℕ) → Asked → Type 0
IsImportAsked words (Import asked) = AreImportFrom (drop 1 words) asked
IsImportAsked words _ = ⊥

-- the text answers the division that the words ask for, and nothing is wrong with them
pub record IsAnswerTo (words : List (List ℕ)) (text : List ℕ) : Type 0 where
  pub in_range : amount_of words ≤ MOST_AMOUNT
  pub sound : AreSound (pairs_of words)
  pub rows : text ≡ split_text (amount_of words) (pairs_of words)

-- The text answers the words, where a file of a path holds these bytes: those of a division with its rows, those of a
-- run with the statements of the files that its options name, those of an explanation with that of the line in the row,
-- those of a check with the report on the files, those of a merge with what the texts of the files that they name merge
-- to, and those of an adjustment with what the texts of two files differ by. Only a report may tell of a fault.
pub record IsAnswered (holds gives : List ℕ → List ℕ
    → Type 0) (words : List (List ℕ)) (sound : Bool) (text : List ℕ) : Type 0 where
  pub division : IsDivision words → IsAnswerTo words text
  pub run : AskForRun words
      → AreStatementsOver holds (inputs_given run_app (drop 1 words)) text
  pub submitted : AskForSubmittedRun words
      → AreSubmittedStatementsOver holds (submitted_given submitted_app (drop 1 words)) text
  pub explained : AskForExplanation words → EitherRun (name_works (drop 1 words))
      (IsExplanationOver holds (inputs_given explain_app (drop 1 words)) (row_given (drop 1 words)) text)
      (IsSubmittedExplanationOver holds (submitted_given submitted_explain_app (drop 1 words))
      (row_given (drop 1 words)) text)
  pub checked : AskForCheck words → EitherRun (name_works (drop 1 words))
      (IsReportOver holds (inputs_given check_app (drop 1 words)) sound text)
      (IsSubmittedReportOver holds (submitted_given submitted_check_app (drop 1 words)) sound text)
  pub merged : AskForMerge words → IsMergeOver gives (paths_given merge_app (codes "statements") (drop 1 words)) text
  pub adjusted : AskForAdjustment words
      → IsAdjustmentOver gives (paid_given (drop 1 words)) (right_given (drop 1 words)) text
  pub table : (table : StartingTable) → AskForTable table words
      → IsTableOver holds table (files_given (starting_app table) (drop 1 words)) text
  pub others : ¬ (word_at words 1 ≡ codes "check") → ¬ (word_at words 1 ≡ codes "import") → sound ≡ true
  pub in_order : (asked : IsRun words) → AreStatementsOver holds (paths_in_order asked.options) text

-- the words of a run, of a merge or of an adjustment name a file for the text
abbrev pub NameOutput : List (List ℕ) → (path : List ℕ) → Type 0
NameOutput words path =
    ((word_at words 1 ≡ codes "run") × (run_output (drop 1 words) ≡ Some path))
    ⊎ ((word_at words 1 ≡ codes "merge") × (path_if_given merge_app (codes "output") (drop 1 words) ≡ Some path))
    ⊎ ((word_at words 1 ≡ codes "adjust") × (adjust_output (drop 1 words) ≡ Some path))

-- and do not ask for help
abbrev pub AskForOutput : List (List ℕ) → (path : List ℕ) → Type 0
AskForOutput words path =
    ((AskForRun words ⊎ AskForSubmittedRun words) × (run_output (drop 1 words) ≡ Some path))
    ⊎ (AskForMerge words × (path_if_given merge_app (codes "output") (drop 1 words) ≡ Some path))
    ⊎ (AskForAdjustment words × (adjust_output (drop 1 words) ≡ Some path))

-- The text went to standard output, or it is kept in the file that the words name, and then nothing was printed. Only
-- help is printed although words name a file. The file that a run or an adjustment names is none of its inputs.
pub record IsDelivered (keeps : List ℕ → Option (List ℕ)
    → Type 0) (words : List (List ℕ)) (before after : Option (List ℕ)) (text : List ℕ) : Type 0 where
  pub printed_or_kept : Appends before after text ⊎ ((path : List ℕ) × NameOutput words path
      × keeps path (Some text) × Keeps before after)
  pub kept_if_named : (path : List ℕ) → AskForOutput words path → keeps path (Some text) × Keeps before after
  pub apart : AskForRun words → IfSome (run_output (drop 1 words)) (IsNoInput (inputs_given run_app (drop 1 words)))
  pub apart_from_all : AskForSubmittedRun words
      → IfSome (run_output (drop 1 words)) (IsNoneOf (submitted_given submitted_app (drop 1 words)))
  pub apart_from_both : AskForAdjustment words
      → IfSome (adjust_output (drop 1 words)) (IsNeither (paid_given (drop 1 words)) (right_given (drop 1 words)))
