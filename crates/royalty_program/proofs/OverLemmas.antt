-- The statements of the files that a run names, by the words that name them.
use Rattle.std.proofs.Common.{◌≡◌, ◌≢◌, ◌∙◌, ◌⊎◌, ℕ, List, Bool, true, false, Option, Some, Err, Ok, Result, ap, arith, codes, drop, inl, inr, length, map, refl, subst, sym}
use Rattle.std.proofs.lemmas.List.{length-map}
use Rattle.std.specs.Option.{option_map}
use Rattle.std.specs.Result.{IfErr, IfOk}
use Rattle.std.specs.Prelude.{String, string_bytes}
use Rattle.std.specs.declared.alloc.Global.{Global}
use Rattle.std.specs.declared.io.ErrorKind.{ErrorKind}
use Rattle.std.specs.declared.io.ErrorKind.TheVariants.{OutOfMemory}
use Rattle.pair_split.specs.Pair.{word_at}
use Rattle.royalty_program.specs.RunCommand.{run_app}
use Rattle.royalty_program.specs.Answered.{AreAdjustFrom, AreCheckedFrom, AreExplainedFrom, AreMergeFrom, AreOneFile, AreReadFrom, AreStarting, AreSubmitted}
use Rattle.royalty_program.specs.AdjustAnswered.{IsOfAdjustment}
use Rattle.royalty_program.specs.AdjustFiles.{IsAdjustmentOver, IsOfBoth}
use Rattle.royalty_program.specs.Asked.{paid_given, right_given}
use Rattle.royalty_program.specs.MergeCommand.{merge_app}
use Rattle.royalty_program.specs.MergeFiles.{IsMergeOver}
use Rattle.royalty_program.specs.declared.adjust_command.AdjustWords.{AdjustWords}
use Rattle.royalty_program.specs.declared.merge_command.MergeWords.{MergeWords}
use Rattle.royalty_program.specs.Asked.{AreRunWords, EitherRun, IsDivision, files_given, inputs_given, name_works, paths_given, paths_in_order, row_given, submitted_given}
use Rattle.royalty_program.specs.CheckCommand.{check_app}
use Rattle.royalty_program.specs.ExplainCommand.{explain_app}
use Rattle.royalty_program.specs.Files.{AreStatementsOver, IsExplanationOver, IsReportOver}
use Rattle.royalty_program.specs.DocumentsAnswered.{IsOfStatements}
use Rattle.royalty_program.specs.Fails.{FailFor}
use Rattle.royalty_program.specs.ImportAnswered.{IsOfImport}
use Rattle.royalty_program.specs.Status.{IsOfCheck, IsOfDivision, IsOfExplanation, IsOfMerge, IsOfPaths, IsOfRunOutput, IsOfFiles, IsOfSubmitted, IsOfTable, IsOfRun, IsRefusal, IsSaidOf, IsSubmittedUnchecked, IsSubmittedUnexplained, IsUnchecked, IsUnexplained, failure_of_target, status_of}
use Rattle.royalty_program.specs.declared.failure.Failure.{Failure}
use Rattle.royalty_program.specs.declared.failure.Failure.TheVariants.{Words, NotText, Pairs, Input, Works, Registrations, Row, Room, File, Output}
use Rattle.royalty_program.specs.declared.failure.Failure.TheVariants.{Target, Statement, Many, ManyMerged, Changed, Replaces, Names, Taken}
use Rattle.royalty_program.specs.declared.failure.Failure.TheVariants.{Map, Headless, NoColumn, ManyColumns, NoHeader, BothTables, OtherLines}
use Rattle.run_inputs.specs.declared.inputs.Inputs.{Inputs}
use Rattle.royalty_program.specs.declared.explain_command.ExplainWords.{ExplainWords}
use Rattle.royalty_program.specs.declared.run_command.RunWords.{RunWords}
use Rattle.royalty_program.proofs.EndLemmas.{IsThrough}
use Rattle.royalty_program.proofs.EitherLemmas.{by_inputs, of_one_file, of_several}
use Rattle.royalty_program.proofs.RunLemmas.{inputs_in_order, is_of_one_file}
use Rattle.royalty_program.proofs.SubmittedFileLemmas.{unread_or_room}
use Rattle.royalty_program.specs.RunInputs.{AreStatementsFrom, HaveEachAPath, IsExplanationFrom, IsOfInputs, IsReportFrom, IsUncheckedFrom, IsUnexplainedFrom}
use Rattle.royalty_program.specs.SubmittedCommand.{submitted_app, submitted_check_app, submitted_explain_app}
use Rattle.royalty_program.specs.SubmittedFiles.{AreSubmittedStatementsOver, IsSubmittedExplanationOver, IsSubmittedReportOver, SubmittedPaths, paths_of}
use Rattle.royalty_program.specs.declared.inputs.RunInputs.{RunInputs}
use Rattle.royalty_program.specs.declared.inputs.RunInputs.TheVariants.{OneFile, Submitted}
use Rattle.submitted_inputs.specs.declared.fault.SubmittedFault.{SubmittedFault}
use Rattle.submitted_inputs.specs.declared.fault.SubmittedFault.TheVariants as submitted
use Rattle.clap.specs.declared.error.Error.{Error}
use Rattle.starting_files.specs.declared.making.StartingTable.{StartingTable}
use Rattle.royalty_program.specs.StartingCommand.{starting_app, starting_name}
use Rattle.royalty_program.specs.declared.starting_command.StartingWords.{StartingWords}
use Rattle.royalty_program.specs.NamedFiles.{name_in, path_in}
use Rattle.royalty_program.specs.SubmittedFiles.{HoldsAt, IsTableOver}
use Rattle.starting_files.specs.Tables.{IsTableOf}

module _ (holds : List ℕ → List ℕ → Type 0) where
  -- statements are those of the paths that the options are given
  statements_given : (words : List (List ℕ)) (asked : RunWords) (text : List ℕ) → AreReadFrom words asked → AreStatementsFrom holds asked.inputs text
      → EitherRun (name_works words) (AreStatementsOver holds (inputs_given run_app words) text) (AreSubmittedStatementsOver holds (submitted_given submitted_app words) text)
  statements_given words asked text read over =
      by_inputs (λ paths. AreStatementsOver holds paths text) (λ paths. AreSubmittedStatementsOver holds paths text) (name_works words) (inputs_given run_app words) (submitted_given submitted_app words) asked.inputs read.inputs over

  pub over_given : (words : List (List ℕ)) (asked : RunWords) (text : List ℕ) → name_works words ≡ false → AreReadFrom words asked
      → AreStatementsFrom holds asked.inputs text → AreStatementsOver holds (inputs_given run_app words) text
  over_given words asked text one read over = of_one_file _ _ _ one (statements_given words asked text read over)

  pub over_submitted : (words : List (List ℕ)) (asked : RunWords) (text : List ℕ) → name_works words ≡ true → AreReadFrom words asked
      → AreStatementsFrom holds asked.inputs text → AreSubmittedStatementsOver holds (submitted_given submitted_app words) text
  over_submitted words asked text several read over = of_several _ _ _ several (statements_given words asked text read over)

  -- and in the plain form of the values after the options
  pub over_in_order : (words : List (List ℕ)) (asked : RunWords) (text : List ℕ) (r : AreRunWords words) → AreReadFrom words asked
      → AreStatementsFrom holds asked.inputs text → AreStatementsOver holds (paths_in_order r) text
  over_in_order words asked text r read over =
      subst (λ (paths : Inputs (List ℕ)). AreStatementsOver holds paths text) (inputs_in_order words r) (over_given words asked text (is_of_one_file words r) read over)

-- a fault of an input is no fault of the words
no_words_said : (files : List (List ℕ)) (fault : SubmittedFault) (error : Error) → ¬ IsSaidOf files fault (Words error)
no_words_said files (submitted.Tis fault) error said = cc said
no_words_said files (submitted.Payee fault) error said = cc said
no_words_said files (submitted.Works fault) error said = cc said
no_words_said files (submitted.Unreadable place) error (name, is, at) = cc is
no_words_said files (submitted.Cwr place fault) error (name, is, at) = cc is
no_words_said files (submitted.Usage fault) error said = cc said
no_words_said files submitted.Room error said = cc said

pub no_words_of_submitted : (holds : List ℕ → List ℕ → Type 0) (refuses : List ℕ → ErrorKind → Type 0) (paths : SubmittedPaths) (error : Error) → ¬ IsOfSubmitted holds refuses paths (Words error)
no_words_of_submitted holds refuses paths error (inl room) = cc room
no_words_of_submitted holds refuses paths error (inr (inl none)) = none
no_words_of_submitted holds refuses paths error (inr (inr (fault, over, said))) = no_words_said paths.files fault error said

-- nor is it that there is no such row
no_row_is_said : (files : List (List ℕ)) (fault : SubmittedFault) (row : ℕ) → ¬ IsSaidOf files fault (Row row)
no_row_is_said files (submitted.Tis fault) row said = cc said
no_row_is_said files (submitted.Payee fault) row said = cc said
no_row_is_said files (submitted.Works fault) row said = cc said
no_row_is_said files (submitted.Unreadable place) row (name, is, at) = cc is
no_row_is_said files (submitted.Cwr place fault) row (name, is, at) = cc is
no_row_is_said files (submitted.Usage fault) row said = cc said
no_row_is_said files submitted.Room row said = cc said

no_row_said : (holds : List ℕ → List ℕ → Type 0) (refuses : List ℕ → ErrorKind → Type 0) (paths : SubmittedPaths) (row : ℕ) → ¬ IsOfSubmitted holds refuses paths (Row row)
no_row_said holds refuses paths row (inl room) = cc room
no_row_said holds refuses paths row (inr (inl none)) = none
no_row_said holds refuses paths row (inr (inr (fault, over, said))) = no_row_is_said paths.files fault row said

-- nor that an output would replace an input
no_replaces_said : (files : List (List ℕ)) (fault : SubmittedFault) (at : String Global) → ¬ IsSaidOf files fault (Replaces at)
no_replaces_said files (submitted.Tis fault) at said = cc said
no_replaces_said files (submitted.Payee fault) at said = cc said
no_replaces_said files (submitted.Works fault) at said = cc said
no_replaces_said files (submitted.Unreadable place) at (name, is, there) = cc is
no_replaces_said files (submitted.Cwr place fault) at (name, is, there) = cc is
no_replaces_said files (submitted.Usage fault) at said = cc said
no_replaces_said files submitted.Room at said = cc said

pub no_replaces : (holds : List ℕ → List ℕ → Type 0) (refuses : List ℕ → ErrorKind → Type 0) (inputs : RunInputs) (at : String Global) → ¬ IsOfInputs holds refuses inputs (Replaces at)
no_replaces holds refuses (OneFile inputs) at none = none
no_replaces holds refuses (Submitted inputs) at (inl room) = cc room
no_replaces holds refuses (Submitted inputs) at (inr (inl none)) = none
no_replaces holds refuses (Submitted inputs) at (inr (inr (fault, over, said))) = no_replaces_said (paths_of inputs).files fault at said

-- a run fails for the files that its options name, and for that of its output
pub fails_given : (holds : List ℕ → List ℕ → Type 0) (refuses : List ℕ → ErrorKind → Type 0) (words : List (List ℕ)) (asked : RunWords) → AreReadFrom words asked → (failure : Failure)
    → IsOfRunOutput asked.output (IsOfInputs holds refuses asked.inputs) failure → IsOfRun holds refuses words failure
fails_given holds refuses words asked read failure is = as_run failure is
  where
    given : (failure : Failure) → IsOfInputs holds refuses asked.inputs failure
        → EitherRun (name_works words) (IsOfPaths holds refuses (inputs_given run_app words) failure) (IsOfSubmitted holds refuses (submitted_given submitted_app words) failure)
    given failure is =
        by_inputs (λ paths. IsOfPaths holds refuses paths failure) (λ paths. IsOfSubmitted holds refuses paths failure) (name_works words) (inputs_given run_app words) (submitted_given submitted_app words) asked.inputs read.inputs is

    no_words : (inputs : RunInputs) (error : Error) → ¬ IsOfInputs holds refuses inputs (Words error)
    no_words (OneFile inputs) error none = none
    no_words (Submitted inputs) error is = no_words_of_submitted holds refuses (paths_of inputs) error is

    as_run : (failure : Failure) → IsOfRunOutput asked.output (IsOfInputs holds refuses asked.inputs) failure
        → IsOfRun holds refuses words failure
    as_run (Words error) is = absurd (no_words asked.inputs error is)
    as_run NotText is = given NotText is
    as_run (Pairs fault) is = given (Pairs fault) is
    as_run (Row row) is = given (Row row) is
    as_run (Input fault) is = given (Input fault) is
    as_run (Works fault) is = given (Works fault) is
    as_run (Registrations fault path) is = given (Registrations fault path) is
    as_run Room is = given Room is
    as_run (File name) is = given (File name) is
    as_run Output is = given Output is
    as_run (Target path) named = sym read.output ∙ ap (option_map string_bytes) named
    as_run (Statement fault path) is = given (Statement fault path) is
    as_run Many is = given Many is
    as_run ManyMerged is = given ManyMerged is
    as_run (Changed path) is = given (Changed path) is
    as_run (Replaces path) named = sym read.output ∙ ap (option_map string_bytes) named
    as_run (Names fault) is = given (Names fault) is
    as_run (Taken path) is = given (Taken path) is
    as_run (Map fault path) is = given (Map fault path) is
    as_run (Headless path) is = given (Headless path) is
    as_run (NoColumn word path) is = given (NoColumn word path) is
    as_run (ManyColumns word path) is = given (ManyColumns word path) is
    as_run (NoHeader word) is = given (NoHeader word) is
    as_run (BothTables path) is = given (BothTables path) is
    as_run (OtherLines row path) is = given (OtherLines row path) is

-- the merge is that of the paths that the words name
pub merged_given : (gives : List ℕ → List ℕ → Type 0) (words : List (List ℕ)) (asked : MergeWords) (text : List ℕ) → AreMergeFrom words asked
    → IsMergeOver gives (map string_bytes asked.statements.items) text → IsMergeOver gives (paths_given merge_app (codes "statements") words) text
merged_given gives words asked text read over = subst (λ (paths : List (List ℕ)). IsMergeOver gives paths text) read.statements over

-- and an adjustment that of the two
pub adjusted_given : (gives : List ℕ → List ℕ → Type 0) (words : List (List ℕ)) (asked : AdjustWords) (text : List ℕ) → AreAdjustFrom words asked
    → IsAdjustmentOver gives (string_bytes asked.paid) (string_bytes asked.right) text → IsAdjustmentOver gives (paid_given words) (right_given words) text
adjusted_given gives words asked text read over =
    subst (λ (paid : List ℕ). IsAdjustmentOver gives paid (right_given words) text) read.paid (subst (λ (right : List ℕ). IsAdjustmentOver gives (string_bytes asked.paid) right text) read.right over)

-- it fails for them, or for the file of its output
pub unadjusted_given : (gives : List ℕ → List ℕ → Type 0) (words : List (List ℕ)) (asked : AdjustWords) → AreAdjustFrom words asked → (failure : Failure)
    → IsOfRunOutput asked.output (IsOfBoth gives (string_bytes asked.paid) (string_bytes asked.right)) failure → IsOfAdjustment gives words failure
unadjusted_given gives words asked read failure is = as_asked failure is
  where
    given : (failure : Failure) → IsOfBoth gives (string_bytes asked.paid) (string_bytes asked.right) failure → IsOfBoth gives (paid_given words) (right_given words) failure
    given failure is =
        subst (λ (paid : List ℕ). IsOfBoth gives paid (right_given words) failure) read.paid (subst (λ (right : List ℕ). IsOfBoth gives (string_bytes asked.paid) right failure) read.right is)

    no_words : (error : Error) → ¬ IsOfBoth gives (string_bytes asked.paid) (string_bytes asked.right) (Words error)
    no_words error (inl none) = none
    no_words error (inr (inl none)) = none.1
    no_words error (inr (inr none)) = none

    as_asked : (failure : Failure) → IsOfRunOutput asked.output (IsOfBoth gives (string_bytes asked.paid) (string_bytes asked.right)) failure → IsOfAdjustment gives words failure
    as_asked (Words error) is = absurd (no_words error is)
    as_asked NotText is = given NotText is
    as_asked (Pairs fault) is = given (Pairs fault) is
    as_asked (Row row) is = given (Row row) is
    as_asked (Input fault) is = given (Input fault) is
    as_asked (Works fault) is = given (Works fault) is
    as_asked (Registrations fault path) is = given (Registrations fault path) is
    as_asked Room is = given Room is
    as_asked (File name) is = given (File name) is
    as_asked Output is = given Output is
    as_asked (Target path) named = sym read.output ∙ ap (option_map string_bytes) named
    as_asked (Statement fault path) is = given (Statement fault path) is
    as_asked Many is = given Many is
    as_asked ManyMerged is = given ManyMerged is
    as_asked (Changed path) is = given (Changed path) is
    as_asked (Replaces path) named = sym read.output ∙ ap (option_map string_bytes) named
    as_asked (Names fault) is = given (Names fault) is
    as_asked (Taken path) is = given (Taken path) is
    as_asked (Map fault path) is = given (Map fault path) is
    as_asked (Headless path) is = given (Headless path) is
    as_asked (NoColumn word path) is = given (NoColumn word path) is
    as_asked (ManyColumns word path) is = given (ManyColumns word path) is
    as_asked (NoHeader word) is = given (NoHeader word) is
    as_asked (BothTables path) is = given (BothTables path) is
    as_asked (OtherLines row path) is = given (OtherLines row path) is

-- an explanation is that of the paths and the row that the options are given
pub explained_given : (holds : List ℕ → List ℕ → Type 0) (words : List (List ℕ)) (asked : ExplainWords) (text : List ℕ) → AreExplainedFrom words asked
    → IsExplanationFrom holds asked.inputs asked.row text
    → EitherRun (name_works words) (IsExplanationOver holds (inputs_given explain_app words) (row_given words) text)
    (IsSubmittedExplanationOver holds (submitted_given submitted_explain_app words) (row_given words) text)
explained_given holds words asked text read over =
    by_inputs (λ paths. IsExplanationOver holds paths (row_given words) text) (λ paths. IsSubmittedExplanationOver holds paths (row_given words) text) (name_works words)
    (inputs_given explain_app words) (submitted_given submitted_explain_app words) asked.inputs read.inputs
    (subst (λ (row : ℕ). IsExplanationFrom holds asked.inputs row text) read.row over)

-- what files fail for is why a line of theirs is not explained
pub as_unexplained : (holds : List ℕ → List ℕ → Type 0) (refuses : List ℕ → ErrorKind → Type 0) (paths : Inputs (List ℕ)) (row : ℕ) (failure : Failure)
    → IsOfPaths holds refuses paths failure → IsUnexplained holds refuses paths row failure
as_unexplained holds refuses paths row (Words error) none = none
as_unexplained holds refuses paths row NotText none = none
as_unexplained holds refuses paths row (Pairs fault) none = none
as_unexplained holds refuses paths row (Row beyond) none = absurd none
as_unexplained holds refuses paths row (Input fault) over = over
as_unexplained holds refuses paths row (Works fault) none = none
as_unexplained holds refuses paths row (Registrations fault path) none = none
as_unexplained holds refuses paths row Room any = any
as_unexplained holds refuses paths row (File name) named = named
as_unexplained holds refuses paths row Output none = none
as_unexplained holds refuses paths row (Target path) none = none
as_unexplained holds refuses paths row (Statement fault path) none = none
as_unexplained holds refuses paths row Many none = none
as_unexplained holds refuses paths row ManyMerged none = none
as_unexplained holds refuses paths row (Changed path) none = none
as_unexplained holds refuses paths row (Replaces path) none = none
as_unexplained holds refuses paths row (Names fault) none = none
as_unexplained holds refuses paths row (Taken path) none = none
as_unexplained holds refuses paths row (Map fault path) none = none
as_unexplained holds refuses paths row (Headless path) none = none
as_unexplained holds refuses paths row (NoColumn word path) none = none
as_unexplained holds refuses paths row (ManyColumns word path) none = none
as_unexplained holds refuses paths row (NoHeader word) none = none
as_unexplained holds refuses paths row (BothTables path) none = none
as_unexplained holds refuses paths row (OtherLines at path) none = none

-- so is what the tables and files of several submitters fail for
pub as_submitted_unexplained : (holds : List ℕ → List ℕ → Type 0) (refuses : List ℕ → ErrorKind → Type 0) (paths : SubmittedPaths) (row : ℕ) (failure : Failure)
    → IsOfSubmitted holds refuses paths failure → IsSubmittedUnexplained holds refuses paths row failure
as_submitted_unexplained holds refuses paths row (Words error) is = is
as_submitted_unexplained holds refuses paths row (Row beyond) is = absurd (no_row_said holds refuses paths beyond is)
as_submitted_unexplained holds refuses paths row NotText is = is
as_submitted_unexplained holds refuses paths row (Pairs fault) is = is
as_submitted_unexplained holds refuses paths row (Input fault) is = is
as_submitted_unexplained holds refuses paths row (Works fault) is = is
as_submitted_unexplained holds refuses paths row (Registrations fault path) is = is
as_submitted_unexplained holds refuses paths row Room is = is
as_submitted_unexplained holds refuses paths row (File name) is = is
as_submitted_unexplained holds refuses paths row Output is = is
as_submitted_unexplained holds refuses paths row (Target path) is = is
as_submitted_unexplained holds refuses paths row (Statement fault path) is = is
as_submitted_unexplained holds refuses paths row Many is = is
as_submitted_unexplained holds refuses paths row ManyMerged is = is
as_submitted_unexplained holds refuses paths row (Changed path) is = is
as_submitted_unexplained holds refuses paths row (Replaces path) is = is
as_submitted_unexplained holds refuses paths row (Names fault) is = is
as_submitted_unexplained holds refuses paths row (Taken path) is = is
as_submitted_unexplained holds refuses paths row (Map fault path) is = is
as_submitted_unexplained holds refuses paths row (Headless path) is = is
as_submitted_unexplained holds refuses paths row (NoColumn word path) is = is
as_submitted_unexplained holds refuses paths row (ManyColumns word path) is = is
as_submitted_unexplained holds refuses paths row (NoHeader word) is = is
as_submitted_unexplained holds refuses paths row (BothTables path) is = is
as_submitted_unexplained holds refuses paths row (OtherLines at path) is = is

-- and its words fail for that
pub unexplained_given : (holds : List ℕ → List ℕ → Type 0) (refuses : List ℕ → ErrorKind → Type 0) (words : List (List ℕ)) (asked : ExplainWords) → AreExplainedFrom words asked → (failure : Failure)
    → IsUnexplainedFrom holds refuses asked.inputs asked.row failure → IsOfExplanation holds refuses words failure
unexplained_given holds refuses words asked read failure is = as_asked failure is
  where
    given : (failure : Failure) → IsUnexplainedFrom holds refuses asked.inputs asked.row failure
        → EitherRun (name_works words) (IsUnexplained holds refuses (inputs_given explain_app words) (row_given words) failure)
        (IsSubmittedUnexplained holds refuses (submitted_given submitted_explain_app words) (row_given words) failure)
    given failure is =
        by_inputs (λ paths. IsUnexplained holds refuses paths (row_given words) failure) (λ paths. IsSubmittedUnexplained holds refuses paths (row_given words) failure) (name_works words)
        (inputs_given explain_app words) (submitted_given submitted_explain_app words) asked.inputs read.inputs
        (subst (λ (row : ℕ). IsUnexplainedFrom holds refuses asked.inputs row failure) read.row is)

    no_words : (inputs : RunInputs) (row : ℕ) (error : Error) → ¬ IsUnexplainedFrom holds refuses inputs row (Words error)
    no_words (OneFile inputs) row error none = none
    no_words (Submitted inputs) row error is = no_words_of_submitted holds refuses (paths_of inputs) error is

    as_asked : (failure : Failure) → IsUnexplainedFrom holds refuses asked.inputs asked.row failure → IsOfExplanation holds refuses words failure
    as_asked (Words error) is = absurd (no_words asked.inputs asked.row error is)
    as_asked (Row beyond) is = given (Row beyond) is
    as_asked NotText is = given NotText is
    as_asked (Pairs fault) is = given (Pairs fault) is
    as_asked (Input fault) is = given (Input fault) is
    as_asked (Works fault) is = given (Works fault) is
    as_asked (Registrations fault path) is = given (Registrations fault path) is
    as_asked Room is = given Room is
    as_asked (File name) is = given (File name) is
    as_asked Output is = given Output is
    as_asked (Target path) is = given (Target path) is
    as_asked (Statement fault path) is = given (Statement fault path) is
    as_asked Many is = given Many is
    as_asked ManyMerged is = given ManyMerged is
    as_asked (Changed path) is = given (Changed path) is
    as_asked (Replaces path) is = given (Replaces path) is
    as_asked (Names fault) is = given (Names fault) is
    as_asked (Taken path) is = given (Taken path) is
    as_asked (Map fault path) is = given (Map fault path) is
    as_asked (Headless path) is = given (Headless path) is
    as_asked (NoColumn word path) is = given (NoColumn word path) is
    as_asked (ManyColumns word path) is = given (ManyColumns word path) is
    as_asked (NoHeader word) is = given (NoHeader word) is
    as_asked (BothTables path) is = given (BothTables path) is
    as_asked (OtherLines row path) is = given (OtherLines row path) is

-- a check reports on the paths that the options are given
pub reported_given : (holds : List ℕ → List ℕ → Type 0) (words : List (List ℕ)) (inputs : RunInputs) (sound : Bool) (text : List ℕ) → AreCheckedFrom words inputs
    → IsReportFrom holds inputs sound text
    → EitherRun (name_works words) (IsReportOver holds (inputs_given check_app words) sound text) (IsSubmittedReportOver holds (submitted_given submitted_check_app words) sound text)
reported_given holds words inputs sound text read over =
    by_inputs (λ paths. IsReportOver holds paths sound text) (λ paths. IsSubmittedReportOver holds paths sound text) (name_works words) (inputs_given check_app words)
    (submitted_given submitted_check_app words) inputs read over

-- the words give each submitter a path
pub each_has_a_path : (words : List (List ℕ)) (inputs : RunInputs) → AreCheckedFrom words inputs → HaveEachAPath inputs
each_has_a_path words (OneFile inputs) read = tt
each_has_a_path words (Submitted inputs) read = by (name_works words) read
  where
    by : (several : Bool) → EitherRun several (AreOneFile (inputs_given check_app words) (Submitted inputs)) (AreSubmitted (submitted_given submitted_check_app words) (Submitted inputs))
        → length inputs.files.paths.items ≡ length inputs.files.names
    by false none = absurd none
    by true same =
        let values = files_given submitted_check_app words in
        omega (
          arith,
          ap (λ (paths : SubmittedPaths). length paths.files) same,
          ap (λ (paths : SubmittedPaths). length paths.names) same,
          length-map inputs.files.paths.items string_bytes,
          length-map values name_in,
          length-map values path_in,
        )

-- and its words fail for that
pub unchecked_given : (holds : List ℕ → List ℕ → Type 0) (refuses : List ℕ → ErrorKind → Type 0) (words : List (List ℕ)) (inputs : RunInputs) → AreCheckedFrom words inputs → (failure : Failure)
    → IsUncheckedFrom holds refuses inputs failure → IsOfCheck holds refuses words failure
unchecked_given holds refuses words inputs read failure is = as_asked failure is
  where
    given : (failure : Failure) → IsUncheckedFrom holds refuses inputs failure
        → EitherRun (name_works words) (IsUnchecked holds refuses (inputs_given check_app words) failure) (IsSubmittedUnchecked holds refuses (submitted_given submitted_check_app words) failure)
    given failure is =
        by_inputs (λ paths. IsUnchecked holds refuses paths failure) (λ paths. IsSubmittedUnchecked holds refuses paths failure) (name_works words) (inputs_given check_app words)
        (submitted_given submitted_check_app words) inputs read is

    no_words : (inputs : RunInputs) (error : Error) → ¬ IsUncheckedFrom holds refuses inputs (Words error)
    no_words (OneFile inputs) error is = is.0
    no_words (Submitted inputs) error is = elim (unread_or_room holds refuses (paths_of inputs) (Words error) is) [ inl room ↦ cc | inr (name, file) ↦ cc ]

    as_asked : (failure : Failure) → IsUncheckedFrom holds refuses inputs failure → IsOfCheck holds refuses words failure
    as_asked (Words error) is = absurd (no_words inputs error is)
    as_asked NotText is = given NotText is
    as_asked (Pairs fault) is = given (Pairs fault) is
    as_asked (Row beyond) is = given (Row beyond) is
    as_asked (Input fault) is = given (Input fault) is
    as_asked (Works fault) is = given (Works fault) is
    as_asked (Registrations fault path) is = given (Registrations fault path) is
    as_asked Room is = given Room is
    as_asked (File name) is = given (File name) is
    as_asked Output is = given Output is
    as_asked (Target path) is = given (Target path) is
    as_asked (Statement fault path) is = given (Statement fault path) is
    as_asked Many is = given Many is
    as_asked ManyMerged is = given ManyMerged is
    as_asked (Changed path) is = given (Changed path) is
    as_asked (Replaces path) is = given (Replaces path) is
    as_asked (Names fault) is = given (Names fault) is
    as_asked (Taken path) is = given (Taken path) is
    as_asked (Map fault path) is = given (Map fault path) is
    as_asked (Headless path) is = given (Headless path) is
    as_asked (NoColumn word path) is = given (NoColumn word path) is
    as_asked (ManyColumns word path) is = given (ManyColumns word path) is
    as_asked (NoHeader word) is = given (NoHeader word) is
    as_asked (BothTables path) is = given (BothTables path) is
    as_asked (OtherLines row path) is = given (OtherLines row path) is

-- a table to begin with is of the files that the option names
pub table_given : (holds : List ℕ → List ℕ → Type 0) (words : List (List ℕ)) (table : StartingTable) (asked : StartingWords) (text : List ℕ) → AreStarting table words asked
    → IsTableOf asked.table asked.files.names (HoldsAt holds (map string_bytes asked.files.paths.items)) text
    → IsTableOver holds table (files_given (starting_app table) words) text
table_given holds words table asked text read is =
    subst (λ (t : StartingTable). IsTableOver holds t (files_given (starting_app table) words) text) read.table_is
    (subst (λ (names : List (List ℕ)). IsTableOf asked.table names (HoldsAt holds (map path_in (files_given (starting_app table) words))) text) read.files.names
    (subst (λ (paths : List (List ℕ)). IsTableOf asked.table asked.files.names (HoldsAt holds paths) text) read.files.paths is))

-- and fails for them
pub no_table_given : (holds : List ℕ → List ℕ → Type 0) (refuses : List ℕ → ErrorKind → Type 0) (words : List (List ℕ)) (table : StartingTable) (asked : StartingWords) → AreStarting table words asked
    → (failure : Failure) → IsOfFiles holds refuses asked.files.names (map string_bytes asked.files.paths.items) failure → IsOfTable holds refuses table words failure
no_table_given holds refuses words table asked read failure is = as_table failure (
    subst (λ (names : List (List ℕ)). IsOfFiles holds refuses names (map path_in (files_given (starting_app table) words)) failure) read.files.names
    (subst (λ (paths : List (List ℕ)). IsOfFiles holds refuses asked.files.names paths failure) read.files.paths is))
  where
    values : List (List ℕ)
    values = files_given (starting_app table) words

    as_table : (failure : Failure) → IsOfFiles holds refuses (map name_in values) (map path_in values) failure → IsOfTable holds refuses table words failure
    as_table (Words error) (inl room) = cc room
    as_table (Words error) (inr (fault, over, said)) = absurd (no_words_said (map path_in values) fault error said)
    as_table NotText is = is
    as_table (Pairs fault) is = is
    as_table (Row row) is = is
    as_table (Input fault) is = is
    as_table (Works fault) is = is
    as_table (Registrations fault path) is = is
    as_table Room is = is
    as_table (File name) is = is
    as_table Output is = is
    as_table (Target path) is = is
    as_table (Statement fault path) is = is
    as_table Many is = is
    as_table ManyMerged is = is
    as_table (Changed path) is = is
    as_table (Replaces path) is = is
    as_table (Names fault) is = is
    as_table (Taken path) is = is
    as_table (Map fault path) is = is
    as_table (Headless path) is = is
    as_table (NoColumn word path) is = is
    as_table (ManyColumns word path) is = is
    as_table (NoHeader word) is = is
    as_table (BothTables path) is = is
    as_table (OtherLines row path) is = is

-- how the program ends: an answer ends with 0, a report that tells of a fault and an import that rejected rows with 1, both with 4 where the output refuses them, and a failure with its status
pub ends_with : {T E : Type 0} (r : Result (Result T E × Bool) Failure) (status : ℕ) (holds gives : List ℕ → List ℕ → Type 0) (refuses : List ℕ → ErrorKind → Type 0) (words : List (List ℕ)) (mid new : Option (List ℕ))
    → IfErr r (λ failure. status ≡ status_of failure) → IfOk r (IsThrough {T = T} {E = E} status mid new) → IfOk r (λ done. ¬ (word_at words 1 ≡ codes "check") → ¬ (word_at words 1 ≡ codes "import") → done.1 ≡ true) → IfErr r IsRefusal → (IsDivision words → IfErr r (IsOfDivision words))
    → (word_at words 1 ≡ codes "run" → IfErr r (IsOfRun holds refuses (drop 1 words))) → (word_at words 1 ≡ codes "explain" → IfErr r (IsOfExplanation holds refuses (drop 1 words)))
    → (word_at words 1 ≡ codes "check" → IfErr r (IsOfCheck holds refuses (drop 1 words))) → (word_at words 1 ≡ codes "merge" → IfErr r (IsOfMerge gives (drop 1 words)))
    → (word_at words 1 ≡ codes "adjust" → IfErr r (IsOfAdjustment gives (drop 1 words)))
    → ((table : StartingTable) → word_at words 1 ≡ starting_name table → IfErr r (IsOfTable holds refuses table (drop 1 words)))
    → (word_at words 1 ≡ codes "statements" → IfErr r (IsOfStatements holds refuses (drop 1 words)))
    → (word_at words 1 ≡ codes "import" → IfErr r (IsOfImport holds gives refuses (drop 1 words)))
    → status ≢ 0 → ¬ ((status ≡ 1) × (word_at words 1 ≡ codes "check")) → ¬ ((status ≡ 1) × (word_at words 1 ≡ codes "import")) → (failure : Failure) × (status ≡ status_of failure) × ((failure ≡ Output) ⊎ FailFor holds gives refuses words failure)
ends_with (Ok done) status holds gives refuses words mid new is (inl refused) others refusal division run explanation checked merge adjustment table documents import failed no_report no_rejects = (Output, refused, inl refl)
ends_with (Ok (printed, true)) status holds gives refuses words mid new is (inr (told, ok, kept)) others refusal division run explanation checked merge adjustment table documents import failed no_report no_rejects = absurd (failed told)
ends_with (Ok (printed, false)) status holds gives refuses words mid new is (inr (told, ok, kept)) others refusal division run explanation checked merge adjustment table documents import failed no_report no_rejects =
    cc (others (λ check. no_report (told, check)) (λ named. no_rejects (told, named)))
ends_with (Err failure) status holds gives refuses words mid new is through others refusal division run explanation checked merge adjustment table documents import failed no_report no_rejects =
    (failure, is, inr (record { refusal = refusal; division = division; run = run; explanation = explanation; checked = checked; merge = merge; adjustment = adjustment; table = table; documents = documents; import = import }))

-- a file for statements that cannot be begun is why a run fails, or lack of memory
pub unkept_of_run : (holds : List ℕ → List ℕ → Type 0) (refuses : List ℕ → ErrorKind → Type 0) (inputs : RunInputs) (path : String Global) (kind : ErrorKind)
    → IsOfRunOutput (Some path) (IsOfInputs holds refuses inputs) (failure_of_target kind path)
unkept_of_run holds refuses (OneFile inputs) path OutOfMemory = tt
unkept_of_run holds refuses (Submitted inputs) path OutOfMemory = inl refl
unkept_of_run holds refuses inputs path kind = refl
