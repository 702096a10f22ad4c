-- The documents of a run over one CWR file.
use Rattle.std.specs.Prelude.{ℕ, ◌≡◌, List, map}
use Rattle.cwr_share.specs.Lines.{lines_of}
use Rattle.distribution_documents.specs.Documents.{File}
use Rattle.document_names.specs.FirstTexts.{AreFirstTexts}
use Rattle.document_names.specs.Payees.{name_in}
use Rattle.document_names.specs.Titles.{titles_of_registrations}
use Rattle.document_run.specs.Documented.{AreDocumentsFor}
use Rattle.document_run.specs.Names.{items_of}
use Rattle.document_run.specs.Wordings.{Said}
use Rattle.document_run.specs.declared.tables.NamedTables.{NamedTables}
use Rattle.run_inputs.specs.Inputs.{IsReading}
use Rattle.run_inputs.specs.declared.inputs.Inputs.{Inputs}
use Rattle.run_inputs.specs.declared.inputs.Tables.{Tables}

-- Works have the titles, and accounts the names, of the registrations of these inputs.
pub record AreNamedBy (inputs : Inputs (List ℕ)) (accounts : List (List ℕ)) (titles : List (List ℕ × List ℕ))
    (names : List (List ℕ)) : Type 0 where
  pub titles_are : AreFirstTexts (titles_of_registrations (lines_of inputs.registrations)) titles
  pub names_are : names ≡ map (name_in (lines_of inputs.registrations)) accounts

-- what the inputs were read as, with these names
pub record IsNamedReading (inputs : Inputs (List ℕ)) (named : NamedTables) : Type 0 where
  pub read : IsReading inputs named.tables
  pub named_by : AreNamedBy inputs named.tables.registry.accounts named.titles (items_of named.names)

-- The files are the documents of a run over these inputs.
pub record AreDocumentsOf (inputs : Inputs (List ℕ)) (said : Said) (files : List File) : Type 0 where
  pub tables : Tables
  pub read : IsReading inputs tables
  pub titles : List (List ℕ × List ℕ)
  pub names : List (List ℕ)
  pub named_by : AreNamedBy inputs tables.registry.accounts titles names
  pub documents : AreDocumentsFor said tables titles names files
