-- What words that ask for documents are answered with, and what they fail for.
use Rattle.std.specs.Prelude.{ℕ, ◌≡◌, ◌⊎◌, [], List, Option, codes, drop}
use Rattle.std.specs.declared.io.ErrorKind.{ErrorKind}
use Rattle.distribution_documents.specs.Documents.{File}
use Rattle.document_run.specs.Wordings.{Said}
use Rattle.pair_split.specs.Pair.{word_at}
use Rattle.royalty_program.specs.Asked.{AreAccepted, AreFilesAccepted, AskForHelp, EitherRun, inputs_given, name_works}
use Rattle.royalty_program.specs.Asked.{number_or, path_given, path_if_given, statements_grammar, submitted_given}
use Rattle.royalty_program.specs.Asked.{text_or, title_given}
use Rattle.royalty_program.specs.DocumentFiles.{AreDocumentsOver, AreLandsOver}
use Rattle.royalty_program.specs.DocumentFiles.{AreSubmittedDocumentsOver, IsOfNames}
use Rattle.royalty_program.specs.Folders.{IsOfFolderNamed}
use Rattle.royalty_program.specs.StatementsCommand.{statements_app, submitted_statements_app}
use Rattle.royalty_program.specs.Status.{IsOfPaths, IsOfSubmitted}
use Rattle.royalty_program.specs.declared.failure.Failure.{Failure}
use Rattle.royalty_program.specs.declared.failure.Failure.TheVariants.{Words}

-- The words of a command line ask for documents, of a run over one file or over those of several submitters, and for no
-- help.
pub record AskForDocuments (words : List (List ℕ)) : Type 0 where
  pub command : word_at words 1 ≡ codes "statements"
  pub no_help : ¬ AskForHelp (statements_grammar (drop 1 words)) (drop 1 words)

-- What follows is of the words from the command's name on. This is the path of the new folder.
abbrev pub folder_given : List (List ℕ) → List ℕ
folder_given words = path_given (statements_grammar words) (codes "to") words

-- what they say of the distribution
abbrev pub said_in : List (List ℕ) → (lands : List (ℕ × List ℕ)) → Said
said_in words lands = record {
  distribution = record {
    title = title_given (statements_grammar words) words;
    currency = text_or [] (statements_grammar words) (codes "currency") words;
    sources = [];
    decimals = number_or 2 (statements_grammar words) (codes "decimals") words;
  };
  lands = lands;
}

-- the path of the table of names of territories, where one is named
abbrev pub names_given : List (List ℕ) → Option (List ℕ)
names_given words = path_if_given (statements_grammar words) (codes "names") words

-- The documents answer the words: they are those of the files that the options name, with the names of territories of
-- the table that they name.
pub record AreDocumentsAnswered (holds : List ℕ → List ℕ → Type 0) (words : List (List ℕ)) (documents : List File)
    : Type 0 where
  pub lands : List (ℕ × List ℕ)
  pub lands_are : AreLandsOver holds (names_given words) lands
  pub documents_over : EitherRun (name_works words)
      (AreDocumentsOver holds (said_in words lands) documents (inputs_given statements_app words))
      (AreSubmittedDocumentsOver holds (said_in words lands) documents (submitted_given submitted_statements_app words))

-- the words are accepted
abbrev pub AreStatementsAccepted : List (List ℕ) → Type 0
AreStatementsAccepted words =
    EitherRun (name_works words) (AreAccepted statements_app words) (AreFilesAccepted submitted_statements_app words)

-- Words that are accepted fail for the folder, for the names of territories, or as a run does.
abbrev pub IsOfAccepted : (holds : List ℕ → List ℕ → Type 0) → (refuses : List ℕ → ErrorKind → Type 0)
    → List (List ℕ) → Failure → Type 0
IsOfAccepted holds refuses words failure =
    IsOfFolderNamed (folder_given words) failure
    ⊎ IsOfNames holds refuses (names_given words) failure
    ⊎ EitherRun (name_works words) (IsOfPaths holds refuses (inputs_given statements_app words) failure)
    (IsOfSubmitted holds refuses (submitted_given submitted_statements_app words) failure)

-- The words fail since they are not accepted, or for what accepted ones fail for.
abbrev pub IsOfStatements : (holds : List ℕ → List ℕ → Type 0) → (refuses : List ℕ → ErrorKind → Type 0)
    → List (List ℕ) → Failure → Type 0
IsOfStatements holds refuses words (Words error) = ¬ AreStatementsAccepted words
IsOfStatements holds refuses words failure = IsOfAccepted holds refuses words failure
