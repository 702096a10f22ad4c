-- The documents of a run over files. `holds path bytes` says that the file of a path has these bytes, and `refuses path
-- kind` that it is refused with an error of this kind.
use Rattle.std.specs.Prelude.{ℕ, ◌≡◌, ◌⊎◌, [], List, None, Option, Some, String, string_bytes}
use Rattle.std.specs.Option.{option_map}
use Rattle.std.specs.declared.alloc.Global.{Global}
use Rattle.std.specs.declared.io.ErrorKind.{ErrorKind}
use Rattle.csv_table.specs.Table.{rows_of}
use Rattle.distribution_documents.specs.Documents.{File}
use Rattle.document_names.specs.Territories.{IsFaultOf, IsTableOf}
use Rattle.document_names.specs.declared.name_fault.NameFault.{NameFault}
use Rattle.document_run.specs.OneFile.{AreDocumentsOf}
use Rattle.document_run.specs.Submitters.{AreSubmittedDocuments}
use Rattle.document_run.specs.Wordings.{Said}
use Rattle.run_inputs.specs.declared.inputs.Inputs.{Inputs}
use Rattle.royalty_program.specs.Files.{AreRead}
use Rattle.royalty_program.specs.Folders.{IsOfFolder}
use Rattle.royalty_program.specs.RunInputs.{EitherInputs, IsOfInputs}
use Rattle.royalty_program.specs.Status.{IsOfFile, failure_of_names}
use Rattle.royalty_program.specs.SubmittedFiles.{AreTablesRead, HoldsAt, SubmittedPaths}
use Rattle.royalty_program.specs.declared.failure.Failure.{Failure}
use Rattle.royalty_program.specs.declared.inputs.RunInputs.{RunInputs}
use Rattle.royalty_program.specs.declared.statements_command.StatementsWords.{StatementsWords}
use Rattle.submitted_inputs.specs.declared.inputs.SubmittedTables.{SubmittedTables}

-- territories have the names of the table of a path, where there is one
abbrev pub AreLandsOver : (holds : List ℕ → List ℕ → Type 0) → Option (List ℕ) → List (ℕ × List ℕ) → Type 0
AreLandsOver holds None lands = lands ≡ []
AreLandsOver holds (Some path) lands = (bytes : List ℕ) × holds path bytes × IsTableOf (rows_of bytes) lands

-- the files of a folder are the documents of a run over the files of these paths
pub record AreDocumentsOver (holds : List ℕ → List ℕ → Type 0) (said : Said) (documents : List File)
    (paths : Inputs (List ℕ)) : Type 0 where
  pub files : Inputs (List ℕ)
  pub read : AreRead holds paths files
  pub documents_of : AreDocumentsOf files said documents

-- and of one over the tables and files of these paths
pub record AreSubmittedDocumentsOver (holds : List ℕ → List ℕ → Type 0) (said : Said) (documents : List File)
    (paths : SubmittedPaths) : Type 0 where
  pub tables : SubmittedTables (List ℕ)
  pub read : AreTablesRead holds paths.tables tables
  pub documents_of : AreSubmittedDocuments paths.names (HoldsAt holds paths.files) tables said documents

abbrev pub AreDocumentsOfInputs : (holds : List ℕ → List ℕ → Type 0) → RunInputs → Said → List File → Type 0
AreDocumentsOfInputs holds inputs said documents =
    EitherInputs (AreDocumentsOver holds said documents) (AreSubmittedDocumentsOver holds said documents) inputs

-- what the words say of the distribution
abbrev pub said_by : StatementsWords → (lands : List (ℕ × List ℕ)) → Said
said_by asked lands = record {
  distribution = record {
    title = string_bytes asked.title;
    currency = string_bytes asked.currency;
    sources = [];
    decimals = asked.decimals;
  };
  lands = lands;
}

-- The documents are those that the words ask for: of the files that they name, with the names of territories of the
-- table that they name.
pub record AreDocumentsAsked (holds : List ℕ → List ℕ → Type 0) (asked : StatementsWords) (documents : List File)
    : Type 0 where
  pub lands : List (ℕ × List ℕ)
  pub lands_are : AreLandsOver holds (option_map string_bytes asked.names) lands
  pub documents_from : AreDocumentsOfInputs holds asked.inputs (said_by asked lands) documents

-- the table of names of territories of a path is refused
pub record AreNamesRefused (holds : List ℕ → List ℕ → Type 0) (path : List ℕ) (failure : Failure) : Type 0 where
  pub bytes : List ℕ
  pub held : holds path bytes
  pub fault : NameFault
  pub fault_of : IsFaultOf (rows_of bytes) fault
  pub said : failure ≡ failure_of_names fault

-- the names of territories fail since the table of the path cannot be read, or is refused
abbrev pub IsOfNames : (holds : List ℕ → List ℕ → Type 0) → (refuses : List ℕ → ErrorKind → Type 0)
    → Option (List ℕ) → Failure → Type 0
IsOfNames holds refuses names failure = (path : String Global) × (names ≡ Some (string_bytes path))
    × (IsOfFile refuses path failure ⊎ AreNamesRefused holds (string_bytes path) failure)

-- Documents fail for their folder, for the names of territories, or as a run does.
abbrev pub IsOfDocuments : (holds : List ℕ → List ℕ → Type 0) → (refuses : List ℕ → ErrorKind → Type 0)
    → StatementsWords → Failure → Type 0
IsOfDocuments holds refuses asked failure =
    IsOfFolder asked.to failure ⊎ IsOfNames holds refuses (option_map string_bytes asked.names) failure
    ⊎ IsOfInputs holds refuses asked.inputs failure
