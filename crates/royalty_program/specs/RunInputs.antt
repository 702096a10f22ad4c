-- The inputs of a run: over one CWR file, or over those of several submitters.
use Rattle.std.specs.Prelude.{ℕ, ◌≡◌, Bool, List, length, string_bytes, ⊤}
use Rattle.std.specs.declared.io.ErrorKind.{ErrorKind}
use Rattle.run_inputs.specs.Inputs.{map_inputs}
use Rattle.run_inputs.specs.declared.inputs.Inputs.{Inputs}
use Rattle.royalty_program.specs.Files.{AreStatementsOver, IsExplanationOver, IsReportOver}
use Rattle.royalty_program.specs.OutputPath.{IsNoInput, IsOfSomeInput}
use Rattle.royalty_program.specs.SubmittedFiles.{AreSubmittedStatementsOver, IsNoneOf, IsOfSomeSubmitted}
use Rattle.royalty_program.specs.SubmittedFiles.{IsSubmittedExplanationOver, IsSubmittedReportOver, SubmittedPaths}
use Rattle.royalty_program.specs.SubmittedFiles.{paths_of}
use Rattle.royalty_program.specs.Status.{IsOfPaths, IsOfSubmitted, IsSubmittedUnchecked, IsSubmittedUnexplained}
use Rattle.royalty_program.specs.Status.{IsUnchecked, IsUnexplained}
use Rattle.royalty_program.specs.declared.failure.Failure.{Failure}
use Rattle.royalty_program.specs.declared.inputs.RunInputs.{RunInputs}
use Rattle.royalty_program.specs.declared.inputs.RunInputs.TheVariants.{OneFile, Submitted}

-- this of the paths of a run over one file, that of those of one over the files of several submitters
abbrev pub EitherInputs : (Inputs (List ℕ) → Type 0) → (SubmittedPaths → Type 0) → RunInputs → Type 0
EitherInputs One Many (OneFile inputs) = One (map_inputs string_bytes inputs)
EitherInputs One Many (Submitted inputs) = Many (paths_of inputs)

-- the text is the statements of the files of these paths
abbrev pub AreStatementsFrom : (holds : List ℕ → List ℕ → Type 0) → RunInputs → List ℕ → Type 0
AreStatementsFrom holds inputs text =
    EitherInputs (λ paths. AreStatementsOver holds paths text)
    (λ paths. AreSubmittedStatementsOver holds paths text) inputs

-- a run over them fails for this
abbrev pub IsOfInputs : (holds : List ℕ → List ℕ → Type 0) → (refuses : List ℕ → ErrorKind → Type 0) → RunInputs
    → Failure → Type 0
IsOfInputs holds refuses inputs failure =
    EitherInputs (λ paths. IsOfPaths holds refuses paths failure)
    (λ paths. IsOfSubmitted holds refuses paths failure) inputs

-- a path is that of no input
abbrev pub IsNoInputOf : RunInputs → (path : List ℕ) → Type 0
IsNoInputOf inputs path = EitherInputs (λ paths. IsNoInput paths path) (λ paths. IsNoneOf paths path) inputs

-- some input has such a path
abbrev pub IsOfSomeInputOf : (P : List ℕ → Type 0) → RunInputs → Type 0
IsOfSomeInputOf P inputs = EitherInputs (IsOfSomeInput P) (IsOfSomeSubmitted P) inputs

-- the text explains the line in a row of their usage list
abbrev pub IsExplanationFrom : (holds : List ℕ → List ℕ → Type 0) → RunInputs → (row : ℕ) → List ℕ → Type 0
IsExplanationFrom holds inputs row text =
    EitherInputs (λ paths. IsExplanationOver holds paths row text)
    (λ paths. IsSubmittedExplanationOver holds paths row text) inputs

-- a line of theirs is not explained for this
abbrev pub IsUnexplainedFrom : (holds : List ℕ → List ℕ → Type 0) → (refuses : List ℕ → ErrorKind → Type 0)
    → RunInputs → (row : ℕ)
    → Failure → Type 0
IsUnexplainedFrom holds refuses inputs row failure =
    EitherInputs (λ paths. IsUnexplained holds refuses paths row failure)
    (λ paths. IsSubmittedUnexplained holds refuses paths row failure) inputs

-- each submitter has the path of a file
abbrev pub HaveEachAPath : RunInputs → Type 0
HaveEachAPath (OneFile inputs) = ⊤
HaveEachAPath (Submitted inputs) = length inputs.files.paths.items ≡ length inputs.files.names

-- the text is the report on them, and tells whether they are sound
abbrev pub IsReportFrom : (holds : List ℕ → List ℕ → Type 0) → RunInputs → (sound : Bool) → List ℕ → Type 0
IsReportFrom holds inputs sound text =
    EitherInputs (λ paths. IsReportOver holds paths sound text)
    (λ paths. IsSubmittedReportOver holds paths sound text) inputs

-- there is no report on them for this
abbrev pub IsUncheckedFrom : (holds : List ℕ → List ℕ → Type 0) → (refuses : List ℕ → ErrorKind → Type 0) → RunInputs
    → Failure → Type 0
IsUncheckedFrom holds refuses inputs failure =
    EitherInputs (λ paths. IsUnchecked holds refuses paths failure)
    (λ paths. IsSubmittedUnchecked holds refuses paths failure) inputs
