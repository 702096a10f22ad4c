-- What the names of territories fail for, and a folder of files that were written.
use Rattle.std.proofs.Common.{◌≡◌, ◌⊎◌, ℕ, Err, List, None, Ok, Option, Result, Some, Vec, inl, inr, refl}
use Rattle.std.specs.Option.{IfSome, IsSome, option_map}
use Rattle.std.specs.Prelude.{String, string_bytes}
use Rattle.std.specs.declared.alloc.Global.{Global}
use Rattle.std.specs.declared.io.ErrorKind.{ErrorKind}
use Rattle.std.specs.Result.{IfErr, IfOk, IsOk}
use Rattle.csv_table.specs.Table.{rows_of}
use Rattle.distribution_documents.specs.Documents.{File}
use Rattle.distribution_documents.specs.Written.{AreWritten}
use Rattle.document_names.specs.Territories.{IsFaultOf}
use Rattle.document_names.specs.declared.name_fault.NameFault.{NameFault}
use Rattle.royalty_program.specs.DocumentFiles.{IsOfNames}
use Rattle.royalty_program.specs.Files.{HoldsIfGiven}
use Rattle.royalty_program.specs.Folders.{IfWritten, IsFolderLeft, IsLeftOrHasFolder, IsLeftOrKept, IsOfFolder}
use Rattle.royalty_program.specs.Status.{IsOfFile, failure_of_names}
use Rattle.royalty_program.specs.declared.failure.Failure.{Failure}

module _ (holds : List ℕ → List ℕ → Type 0) (refuses : List ℕ → ErrorKind → Type 0) (failure : Failure) where
  -- the table cannot be read
  pub of_unread : (names : Option (String Global)) → IsSome names → IfSome names (λ path. IsOfFile refuses path failure)
      → IsOfNames holds refuses (option_map string_bytes names) failure
  of_unread None there fails = cc
  of_unread (Some path) there fails = (path, refl, inl fails)

  -- or is refused
  pub of_refused : (names : Option (String Global)) (bytes : List ℕ) (fault : NameFault) → HoldsIfGiven holds (option_map string_bytes names) (Some bytes) → IsFaultOf (rows_of bytes) fault
      → failure ≡ failure_of_names fault → IsOfNames holds refuses (option_map string_bytes names) failure
  of_refused None bytes fault held fault_of said = absurd held
  of_refused (Some path) bytes fault held fault_of said = (path, refl, inr (record { bytes = bytes; held = held; fault = fault; fault_of = fault_of; said = said }))

-- a folder has the documents that were written to it
pub kept_documents : {X : Type 0} (has : X → List ℕ → List ℕ → Type 0) (Answers Keeps : List File → Type 0) (written : Result (Option (Vec X Global)) Failure)
    → IfOk written (λ all. IfSome all (λ pages. (documents : List File) × Answers documents × AreWritten has pages.items documents))
    → IfWritten written (λ pages. (documents : List File) → AreWritten has pages documents → Keeps documents) → (documents : List File) × Keeps documents × Answers documents
kept_documents has Answers Keeps (Ok (Some pages)) made kept = (made.0, kept made.0 made.2, made.1)
kept_documents has Answers Keeps (Ok None) made kept = absurd kept
kept_documents has Answers Keeps (Err failure) made kept = absurd kept

-- or its path what it had
pub left_or_documents : {X : Type 0} (has : X → List ℕ → List ℕ → Type 0) (Answers : List File → Type 0) (old new : Option (List File) → Type 0) (written : Result (Option (Vec X Global)) Failure)
    → IfOk written (λ all. IfSome all (λ pages. (documents : List File) × Answers documents × AreWritten has pages.items documents))
    → IsFolderLeft old new ⊎ IfWritten written (λ pages. IsLeftOrKept has pages old new) → IsLeftOrHasFolder old new Answers
left_or_documents has Answers old new written made (inl same) = inl same
left_or_documents has Answers old new (Ok (Some pages)) made (inr left) = elim (left made.0 made.2) [ inl same ↦ inl same | inr kept ↦ inr (made.0, kept, made.1) ]
left_or_documents has Answers old new (Ok None) made (inr left) = absurd left
left_or_documents has Answers old new (Err failure) made (inr left) = absurd left

-- The same since the folder was begun, which left the path as it was.
pub since_begun : (Answers : List File → Type 0) (before old new : Option (List File) → Type 0) → IsFolderLeft before old → IsLeftOrHasFolder old new Answers → IsLeftOrHasFolder before new Answers
since_begun Answers before old new begun (inl same) = inl (λ folder had. same folder (begun folder had))
since_begun Answers before old new begun (inr kept) = inr kept

-- What fails to be finished failed before, or for its folder.
pub unfinished : {X : Type 0} (path : String Global) (Fails : Failure → Type 0) (written : Result X Failure) (failure : Failure) → IfErr written Fails
    → (written ≡ Err failure) ⊎ (IsOk written × IsOfFolder path failure) → IsOfFolder path failure ⊎ Fails failure
unfinished path Fails written failure fails (inl is) = inr (rw is at fails)
unfinished path Fails written failure fails (inr ended) = inl ended.1
