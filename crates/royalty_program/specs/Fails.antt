-- What the words of a command line fail for, by the command that they name.
use Rattle.std.specs.Prelude.{ℕ, ◌≡◌, List, codes, drop}
use Rattle.std.specs.declared.io.ErrorKind.{ErrorKind}
use Rattle.pair_split.specs.Pair.{word_at}
use Rattle.royalty_program.specs.AdjustAnswered.{IsOfAdjustment}
use Rattle.royalty_program.specs.Asked.{IsDivision}
use Rattle.royalty_program.specs.DocumentsAnswered.{IsOfStatements}
use Rattle.royalty_program.specs.ImportAnswered.{IsOfImport}
use Rattle.royalty_program.specs.StartingCommand.{starting_name}
use Rattle.royalty_program.specs.Status.{IsOfCheck, IsOfDivision, IsOfExplanation, IsOfMerge, IsOfRun, IsOfTable}
use Rattle.royalty_program.specs.Status.{IsRefusal}
use Rattle.royalty_program.specs.declared.failure.Failure.{Failure}
use Rattle.starting_files.specs.declared.making.StartingTable.{StartingTable}

-- the words of a command line fail for this
pub record FailFor (holds gives : List ℕ → List ℕ → Type 0) (refuses : List ℕ → ErrorKind → Type 0)
    (words : List (List ℕ)) (failure : Failure) : Type 0 where
  pub refusal : IsRefusal failure
  pub division : IsDivision words → IsOfDivision words failure
  pub run : word_at words 1 ≡ codes "run" → IsOfRun holds refuses (drop 1 words) failure
  pub explanation : word_at words 1 ≡ codes "explain" → IsOfExplanation holds refuses (drop 1 words) failure
  pub checked : word_at words 1 ≡ codes "check" → IsOfCheck holds refuses (drop 1 words) failure
  pub merge : word_at words 1 ≡ codes "merge" → IsOfMerge gives (drop 1 words) failure
  pub adjustment : word_at words 1 ≡ codes "adjust" → IsOfAdjustment gives (drop 1 words) failure
  pub table : (table : StartingTable) → word_at words 1 ≡ starting_name table
      → IsOfTable holds refuses table (drop 1 words) failure
  pub documents : word_at words 1 ≡ codes "statements" → IsOfStatements holds refuses (drop 1 words) failure
  pub import : word_at words 1 ≡ codes "import" → IsOfImport holds gives refuses (drop 1 words) failure
