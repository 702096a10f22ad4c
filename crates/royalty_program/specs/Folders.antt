-- Folders of documents that are kept whole, or not at all. `keeps path folder` says that a path has a folder of these
-- files, or none.
use Rattle.std.specs.Prelude.{ℕ, ◌≡◌, ◌⊎◌, List, Ok, Option, Result, Some, String, Vec, string_bytes, ⊤}
use Rattle.std.specs.declared.alloc.Global.{Global}
use Rattle.distribution_documents.specs.Documents.{File}
use Rattle.distribution_documents.specs.Written.{AreWritten}
use Rattle.royalty_program.specs.declared.failure.Failure.{Failure}
use Rattle.royalty_program.specs.declared.failure.Failure.TheVariants.{Room, Taken, Target}

-- What the system keeps under a path no contract can say.
abbrev pub in_any_folder : List ℕ → Option (List File) → Type 0
in_any_folder path folder = ⊤

-- Nor which name a place in a folder has, or what a file of it has.
abbrev pub any_place : {X : Type 0} → X → List ℕ → Type 0
any_place place name = ⊤

abbrev pub any_page : {X : Type 0} → X → List ℕ → List ℕ → Type 0
any_page page name bytes = ⊤

-- what a path had it has still
abbrev pub IsFolderLeft : (old new : Option (List File) → Type 0) → Type 0
IsFolderLeft old new = (folder : Option (List File)) → old folder → new folder

-- or it has the folder of these files, whole
abbrev pub IsLeftOrKept : {X : Type 0} → (has : X → List ℕ → List ℕ → Type 0) → (written : List X)
    → (old new : Option (List File) → Type 0) → Type 0
IsLeftOrKept has written old new =
    (files : List File) → AreWritten has written files → IsFolderLeft old new ⊎ new (Some files)

-- what a path had it has still, or it has a folder of files for which this holds
abbrev pub IsLeftOrHasFolder : (old new : Option (List File) → Type 0) → (List File → Type 0) → Type 0
IsLeftOrHasFolder old new Answers = IsFolderLeft old new ⊎ ((files : List File) × new (Some files) × Answers files)

-- the files of a folder were all written, and this holds of them
abbrev pub IfWritten : {X : Type 0} → Result (Option (Vec X Global)) Failure → (List X → Type 0) → Type 0
IfWritten (Ok (Some pages)) Holds = Holds pages.items
IfWritten _ Holds = ⊥

-- a folder fails for lack of memory, or since its path is taken or cannot be written
abbrev pub IsOfFolder : (path : String Global) → Failure → Type 0
IsOfFolder path failure = (failure ≡ Room) ⊎ (failure ≡ Target path) ⊎ (failure ≡ Taken path)

-- where the path has these bytes
abbrev pub IsOfFolderNamed : (path : List ℕ) → Failure → Type 0
IsOfFolderNamed path failure = (named : String Global) × (string_bytes named ≡ path) × IsOfFolder named failure
