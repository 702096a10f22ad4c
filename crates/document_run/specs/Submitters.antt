-- The documents of a run over the files of several submitters. `holds place bytes` says that the file of a place among
-- the names holds these bytes.
use Rattle.std.specs.Prelude.{ℕ, List, drop}
use Rattle.csv_table.specs.Table.{rows_of}
use Rattle.distribution_documents.specs.Documents.{File}
use Rattle.document_names.specs.FirstTexts.{AreFirstTexts}
use Rattle.document_names.specs.Titles.{titles_in_rows}
use Rattle.document_run.specs.Documented.{AreDocumentsFor}
use Rattle.document_run.specs.Names.{AreNamesOf, items_of, names_by_table}
use Rattle.document_run.specs.Wordings.{Said}
use Rattle.document_run.specs.declared.tables.NamedTables.{NamedTables}
use Rattle.run_inputs.specs.declared.inputs.Tables.{Tables}
use Rattle.submitted_inputs.specs.Submitted.{IsReading}
use Rattle.submitted_inputs.specs.declared.inputs.SubmittedTables.{SubmittedTables}

-- Works have the titles of the table of works. Accounts have the names of the table of payees, and those without one
-- the names of the files.
pub record AreNamedBy (submitters : List (List ℕ)) (holds : ℕ → List ℕ → Type 0) (inputs : SubmittedTables (List ℕ))
    (accounts : List (List ℕ)) (titles : List (List ℕ × List ℕ)) (names : List (List ℕ)) : Type 0 where
  pub titles_are : AreFirstTexts (titles_in_rows (drop 1 (rows_of inputs.works))) titles
  pub names_are : AreNamesOf submitters holds accounts (names_by_table inputs.payees accounts) names

-- what the inputs were read as, with these names
pub record IsNamedSubmitted (submitters : List (List ℕ)) (holds : ℕ → List ℕ → Type 0)
    (inputs : SubmittedTables (List ℕ)) (named : NamedTables) : Type 0 where
  pub read : IsReading submitters holds inputs named.tables
  pub named_by : AreNamedBy submitters holds inputs named.tables.registry.accounts named.titles (items_of named.names)

-- The files are the documents of a run over these inputs.
pub record AreSubmittedDocuments (submitters : List (List ℕ)) (holds : ℕ → List ℕ → Type 0)
    (inputs : SubmittedTables (List ℕ)) (said : Said) (files : List File) : Type 0 where
  pub tables : Tables
  pub read : IsReading submitters holds inputs tables
  pub titles : List (List ℕ × List ℕ)
  pub names : List (List ℕ)
  pub named_by : AreNamedBy submitters holds inputs tables.registry.accounts titles names
  pub documents : AreDocumentsFor said tables titles names files
