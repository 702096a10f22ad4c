-- What words that ask for an import are answered with, and what they fail for.
use Rattle.std.specs.Io.KnownBytes.{Appends}
use Rattle.std.specs.Prelude.{ℕ, ◌≡◌, ◌⊎◌, Bool, List, Option, codes, drop}
use Rattle.std.specs.declared.io.ErrorKind.{ErrorKind}
use Rattle.clap.specs.declared.error.Error.{Error}
use Rattle.pair_split.specs.Pair.{word_at}
use Rattle.royalty_program.specs.Asked.{AreAccepted, AskForHelp}
use Rattle.royalty_program.specs.ImportCommand.{AreImportFrom, AreSound, import_app}
use Rattle.royalty_program.specs.ImportFiles.{AreAllLeft, AreLeftOrWritten, IsImportOver, IsOfImportOver}
use Rattle.royalty_program.specs.declared.failure.Failure.{Failure}
use Rattle.royalty_program.specs.declared.failure.Failure.TheVariants.{Room, Words}
use Rattle.royalty_program.specs.declared.import_command.ImportWords.{ImportWords}

-- The words of a command line ask for an import.
abbrev pub NameImport : List (List ℕ) → Type 0
NameImport words = word_at words 1 ≡ codes "import"

-- and for no help
pub record AskForImport (words : List (List ℕ)) : Type 0 where
  pub command : NameImport words
  pub no_help : ¬ AskForHelp import_app (drop 1 words)

-- The usage lines and the rejected rows of the export that they name are kept in the files that they name, and the text
-- is the summary.
pub record IsImportAnswered (keeps : List ℕ → Option (List ℕ) → Type 0) (holds gives : List ℕ → List ℕ → Type 0)
    (words : List (List ℕ)) (is_whole : Bool) (text : List ℕ) : Type 0 where
  pub asked : ImportWords
  pub are : AreImportFrom (drop 1 words) asked
  pub over : IsImportOver keeps holds gives asked is_whole text

-- and it was printed
abbrev pub IsImportPrinted : (keeps : List ℕ → Option (List ℕ) → Type 0) (holds gives : List ℕ → List ℕ → Type 0)
    → List (List ℕ) → (is_whole : Bool) → (before after : Option (List ℕ)) → Type 0
IsImportPrinted keeps holds gives words is_whole before after =
    (text : List ℕ) × Appends before after text × IsImportAnswered keeps holds gives words is_whole text

-- the words, from the command's name on, fail for what accepted ones fail for, or since they are not accepted
pub record IsOfAccepted (holds gives : List ℕ → List ℕ → Type 0) (refuses : List ℕ → ErrorKind → Type 0)
    (words : List (List ℕ)) (failure : Failure) : Type 0 where
  pub asked : ImportWords
  pub are : AreImportFrom words asked
  pub of : IsOfImportOver holds gives refuses asked failure

abbrev pub IsOfImport : (holds gives : List ℕ → List ℕ → Type 0) (refuses : List ℕ → ErrorKind → Type 0)
    → List (List ℕ) → Failure → Type 0
IsOfImport holds gives refuses words failure = (failure ≡ Room)
    ⊎ ((error : Error) × (failure ≡ Words error) × (¬ (AreAccepted import_app words × AreSound words)))
    ⊎ IsOfAccepted holds gives refuses words failure

-- No file has changed; or the two that the words name have what they had, or each the whole of a table of the import of
-- an export, and no other has changed.
pub record AreTablesLeft (old new : List ℕ → Option (List ℕ) → Type 0) (gives : List ℕ → List ℕ → Type 0)
    (words : List (List ℕ)) : Type 0 where
  pub asked : ImportWords
  pub are : AreImportFrom (drop 1 words) asked
  pub left : AreLeftOrWritten old new gives asked.tables asked.mapping

abbrev pub IsLeftByImport : (old new : List ℕ → Option (List ℕ) → Type 0) → (gives : List ℕ → List ℕ → Type 0)
    → List (List ℕ) → Type 0
IsLeftByImport old new gives words = AreAllLeft old new ⊎ AreTablesLeft old new gives words
