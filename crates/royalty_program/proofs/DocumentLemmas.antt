-- The documents of the files that words name, by the words that name them.
use Rattle.std.proofs.Common.{◌≡◌, ◌≢◌, ◌∙◌, ℕ, List, Bool, true, false, Option, Some, None, append-nil, ap, cond, inl, inr, sym, subst, codes, refl, []}
use Rattle.std.specs.Option.{option_map}
use Rattle.std.specs.Prelude.{String, string_bytes}
use Rattle.std.specs.Io.KnownBytes.{Appends}
use Rattle.std.specs.declared.alloc.Global.{Global}
use Rattle.std.specs.declared.io.ErrorKind.{ErrorKind}
use Rattle.std.specs.declared.io.ErrorKind.TheVariants.{OutOfMemory}
use Rattle.std.specs.Prelude.{⊤}
use Rattle.clap.specs.Words.{kind_of}
use Rattle.clap.specs.declared.error.Error.{Error}
use Rattle.clap.specs.declared.error.kind.ErrorKind.TheVariants as kinds
use Rattle.distribution_documents.specs.Documents.{File}
use Rattle.document_names.specs.declared.name_fault.NameFault.{NameFault}
use Rattle.document_names.specs.declared.name_fault.NameFault.TheVariants.{Memory}
use Rattle.document_run.specs.Wordings.{Said}
use Rattle.pair_split.specs.Pair.{word_at}
use Rattle.royalty_program.specs.Answered.{AreDocumentsFrom, IsAnswered}
use Rattle.royalty_program.specs.Asked.{AreAccepted, AreFilesAccepted, AskForHelp, EitherRun, IsErrorOf, IsStatementsError, IsSubmittedError}
use Rattle.royalty_program.specs.Asked.{inputs_given, name_works, statements_grammar, submitted_given}
use Rattle.royalty_program.specs.DocumentFiles.{AreDocumentsAsked, AreDocumentsOfInputs, AreDocumentsOver, AreLandsOver, AreSubmittedDocumentsOver, IsOfDocuments, IsOfNames, said_by}
use Rattle.royalty_program.specs.DocumentsAnswered.{AreDocumentsAnswered, AreStatementsAccepted, IsOfAccepted, IsOfStatements, folder_given, said_in}
use Rattle.royalty_program.specs.Folders.{IsLeftOrHasFolder}
use Rattle.royalty_program.specs.RunInputs.{IsOfInputs}
use Rattle.royalty_program.specs.StatementsCommand.{statements_app, submitted_statements_app}
use Rattle.royalty_program.specs.Status.{IsOfPaths, IsOfSubmitted, failure_of_file, failure_of_names}
use Rattle.royalty_program.specs.declared.failure.Failure.{Failure}
use Rattle.royalty_program.specs.declared.failure.Failure.TheVariants as failures
use Rattle.royalty_program.specs.declared.statements_command.StatementsWords.{StatementsWords}
use Rattle.royalty_program.proofs.CommandNames.{differ, no_table}
use Rattle.royalty_program.proofs.EitherLemmas.{by_inputs}
use Rattle.royalty_program.proofs.OptionLemmas.{accepted_is_memory, no_help_given}
use Rattle.royalty_program.proofs.OutputLemmas.{no_files_help_given, not_accepted_files}
use Rattle.royalty_program.proofs.OverLemmas.{no_words_of_submitted}
use Rattle.royalty_program.specs.SubmittedFiles.{paths_of}
use Rattle.royalty_program.specs.declared.inputs.RunInputs.{RunInputs}
use Rattle.royalty_program.specs.declared.inputs.RunInputs.TheVariants.{OneFile, Submitted}

-- nothing more stands behind what was written
pub nothing_added : (text : Option (List ℕ)) → Appends text text []
nothing_added None = tt
nothing_added (Some xs) = sym (append-nil xs)

-- words that ask for documents ask for no other answer
pub answers_documents : (holds gives : List ℕ → List ℕ → Type 0) (words : List (List ℕ)) (text : List ℕ) → word_at words 1 ≡ codes "statements" → IsAnswered holds gives words true text
answers_documents holds gives words text command = record {
  division = λ division. absurd (differ (sym command ∙ division.command) refl);
  run = λ run. absurd (differ (sym command ∙ run.command) refl);
  submitted = λ run. absurd (differ (sym command ∙ run.command) refl);
  explained = λ explain. absurd (differ (sym command ∙ explain.command) refl);
  checked = λ check. absurd (differ (sym command ∙ check.command) refl);
  merged = λ merge. absurd (differ (sym command ∙ merge.command) refl);
  adjusted = λ adjust. absurd (differ (sym command ∙ adjust.command) refl);
  table = λ table asks. absurd (no_table refl refl table (sym command ∙ asks.command));
  others = λ other no_import. refl;
  in_order = λ run. absurd (differ (sym command ∙ run.command) refl);
}

-- three equations make one of what is said
abbrev says : (lands : List (ℕ × List ℕ)) (title currency : List ℕ) (decimals : ℕ) → Said
says lands title currency decimals = record { distribution = record { title = title; currency = currency; sources = []; decimals = decimals }; lands = lands }

says_same : (lands : List (ℕ × List ℕ)) (title title' currency currency' : List ℕ) (decimals decimals' : ℕ) → title ≡ title' → currency ≡ currency' → decimals ≡ decimals'
    → says lands title currency decimals ≡ says lands title' currency' decimals'
says_same lands title title' currency currency' decimals decimals' t c d =
    ap (λ (x : List ℕ). says lands x currency decimals) t ∙ ap (λ (x : List ℕ). says lands title' x decimals) c ∙ ap (λ (x : ℕ). says lands title' currency' x) d

-- a file or a table that is refused is no fault of the words
abbrev IsNoWord : Failure → Type 0
IsNoWord (failures.Words error) = ⊥
IsNoWord _ = ⊤

no_words_of_file : (kind : ErrorKind) (path : String Global) (error : Error) → ¬ (failures.Words error ≡ failure_of_file kind path)
no_words_of_file kind path error is = subst IsNoWord (sym is) (by kind)
  where
    by : (kind : ErrorKind) → IsNoWord (failure_of_file kind path)
    by OutOfMemory = tt
    by kind = tt

no_words_of_table : (fault : NameFault) (error : Error) → ¬ (failures.Words error ≡ failure_of_names fault)
no_words_of_table fault error is = subst IsNoWord (sym is) (by fault)
  where
    by : (fault : NameFault) → IsNoWord (failure_of_names fault)
    by Memory = tt
    by fault = tt

no_words_of_inputs : (holds : List ℕ → List ℕ → Type 0) (refuses : List ℕ → ErrorKind → Type 0) (inputs : RunInputs) (error : Error) → ¬ IsOfInputs holds refuses inputs (failures.Words error)
no_words_of_inputs holds refuses (OneFile inputs) error none = none
no_words_of_inputs holds refuses (Submitted inputs) error is = no_words_of_submitted holds refuses (paths_of inputs) error is

module _ (holds : List ℕ → List ℕ → Type 0) (words : List (List ℕ)) (asked : StatementsWords) (read : AreDocumentsFrom words asked) where
  -- what is said of the distribution is what the options say
  said_is : (lands : List (ℕ × List ℕ)) → said_by asked lands ≡ said_in words lands
  said_is lands = says_same lands (string_bytes asked.title) _ (string_bytes asked.currency) _ asked.decimals _ read.chosen.title read.chosen.currency read.chosen.decimals

  -- and the documents are those of the paths that the options name
  pub documents_given : (documents : List File) → AreDocumentsAsked holds asked documents → AreDocumentsAnswered holds words documents
  documents_given documents are = record {
    lands = are.lands;
    lands_are = subst (λ (path : Option (List ℕ)). AreLandsOver holds path are.lands) read.chosen.names are.lands_are;
    documents_over =
        by_inputs (AreDocumentsOver holds (said_in words are.lands) documents) (AreSubmittedDocumentsOver holds (said_in words are.lands) documents) (name_works words)
        (inputs_given statements_app words) (submitted_given submitted_statements_app words) asked.inputs read.inputs
        (subst (λ (said : Said). AreDocumentsOfInputs holds asked.inputs said documents) (said_is are.lands) are.documents_from);
  }

  -- so is what a path has that is left, or has documents
  pub left_given : (old new : List ℕ → Option (List File) → Type 0) → IsLeftOrHasFolder (old (string_bytes asked.to)) (new (string_bytes asked.to)) (AreDocumentsAsked holds asked)
      → IsLeftOrHasFolder (old (folder_given words)) (new (folder_given words)) (AreDocumentsAnswered holds words)
  left_given old new left = subst (λ (path : List ℕ). IsLeftOrHasFolder (old path) (new path) (AreDocumentsAnswered holds words)) read.chosen.to (elim left [
    | inl same ↦ inl same
    | inr (documents, kept, are) ↦ inr (documents, kept, documents_given documents are)
  ])

  module _ (refuses : List ℕ → ErrorKind → Type 0) where
    no_words_of_names : (error : Error) → ¬ IsOfNames holds refuses (option_map string_bytes asked.names) (failures.Words error)
    no_words_of_names error (path, is, inl (kind, refused, unread)) = no_words_of_file kind path error unread
    no_words_of_names error (path, is, inr refused) = no_words_of_table refused.fault error refused.said

    given : (failure : Failure) → IsOfDocuments holds refuses asked failure → IsOfAccepted holds refuses words failure
    given failure (inl folder) = inl (asked.to, read.chosen.to, folder)
    given failure (inr (inl names)) = inr (inl (subst (λ (given : Option (List ℕ)). IsOfNames holds refuses given failure) read.chosen.names names))
    given failure (inr (inr inputs)) = inr (inr (by_inputs (λ paths. IsOfPaths holds refuses paths failure) (λ paths. IsOfSubmitted holds refuses paths failure) (name_works words)
        (inputs_given statements_app words) (submitted_given submitted_statements_app words) asked.inputs read.inputs inputs))

    -- and they fail for them
    pub fails_given : (failure : Failure) → IsOfDocuments holds refuses asked failure → IsOfStatements holds refuses words failure
    fails_given (failures.Words error) (inl (inl room)) = cc
    fails_given (failures.Words error) (inl (inr (inl target))) = cc
    fails_given (failures.Words error) (inl (inr (inr taken))) = cc
    fails_given (failures.Words error) (inr (inl names)) = absurd (no_words_of_names error names)
    fails_given (failures.Words error) (inr (inr inputs)) = absurd (no_words_of_inputs holds refuses asked.inputs error inputs)
    fails_given failures.NotText is = given failures.NotText is
    fails_given (failures.Pairs fault) is = given (failures.Pairs fault) is
    fails_given (failures.Row row) is = given (failures.Row row) is
    fails_given (failures.Input fault) is = given (failures.Input fault) is
    fails_given (failures.Works fault) is = given (failures.Works fault) is
    fails_given (failures.Registrations fault path) is = given (failures.Registrations fault path) is
    fails_given failures.Room is = given failures.Room is
    fails_given (failures.File name) is = given (failures.File name) is
    fails_given failures.Output is = given failures.Output is
    fails_given (failures.Target path) is = given (failures.Target path) is
    fails_given (failures.Statement fault path) is = given (failures.Statement fault path) is
    fails_given failures.Many is = given failures.Many is
    fails_given failures.ManyMerged is = given failures.ManyMerged is
    fails_given (failures.Changed path) is = given (failures.Changed path) is
    fails_given (failures.Replaces path) is = given (failures.Replaces path) is
    fails_given (failures.Names fault) is = given (failures.Names fault) is
    fails_given (failures.Taken path) is = given (failures.Taken path) is
    fails_given (failures.Map fault path) is = given (failures.Map fault path) is
    fails_given (failures.Headless path) is = given (failures.Headless path) is
    fails_given (failures.NoColumn word path) is = given (failures.NoColumn word path) is
    fails_given (failures.ManyColumns word path) is = given (failures.ManyColumns word path) is
    fails_given (failures.NoHeader word) is = given (failures.NoHeader word) is
    fails_given (failures.BothTables path) is = given (failures.BothTables path) is
    fails_given (failures.OtherLines row path) is = given (failures.OtherLines row path) is

-- words that are no documents' for clap are not accepted
pub not_accepted_statements : (words : List (List ℕ)) (error : Error) → kind_of error ≢ kinds.OutOfMemory → IsStatementsError words error → ¬ AreStatementsAccepted words
not_accepted_statements words error not_memory = by (name_works words)
  where
    by : (several : Bool) → EitherRun several (IsErrorOf statements_app words error) (IsSubmittedError submitted_statements_app words error)
        → ¬ EitherRun several (AreAccepted statements_app words) (AreFilesAccepted submitted_statements_app words)
    by false is accepted = not_memory (accepted_is_memory statements_app words error is accepted)
    by true is accepted = not_accepted_files submitted_statements_app words error not_memory is accepted

-- and those that ask for documents ask for no help
pub no_statements_help_given : (words : List (List ℕ)) (error : Error) → IsStatementsError words error → ¬ AskForHelp (statements_grammar words) words
    → (kind_of error ≢ kinds.DisplayHelp) × (kind_of error ≢ kinds.DisplayVersion)
no_statements_help_given words error = by (name_works words)
  where
    by : (several : Bool) → EitherRun several (IsErrorOf statements_app words error) (IsSubmittedError submitted_statements_app words error)
        → ¬ AskForHelp (cond several submitted_statements_app statements_app) words → (kind_of error ≢ kinds.DisplayHelp) × (kind_of error ≢ kinds.DisplayVersion)
    by false is none = no_help_given statements_app words error is none
    by true is none = no_files_help_given submitted_statements_app words error is none
