-- The documents of inputs that were read.
use Rattle.std.specs.Prelude.{ℕ, ℤ, ◌≡◌, List, length}
use Rattle.cwr_share.specs.Registered.{IsRegistered}
use Rattle.distribution_documents.specs.Documents.{AreDocuments, File}
use Rattle.distribution_documents.specs.Runs.{Run}
use Rattle.document_names.specs.FirstTexts.{text_in}
use Rattle.document_run.specs.Wordings.{Said}
use Rattle.document_run.specs.declared.tables.NamedTables.{NamedTables}
use Rattle.line_split.specs.declared.reason.Reason.{Reason}
use Rattle.run_inputs.specs.declared.inputs.Tables.{Tables}
use Rattle.settle_run.specs.Settled.{AreDivided, AreStatementsFor, text_of_book}

-- there is a name for each account
pub record AreReady (named : NamedTables) : Type 0 where
  pub accounts : IsRegistered named.tables.registry
  pub names : length named.names.items ≡ length named.tables.registry.accounts

-- The files are the documents of the usage lines of these tables, divided, where works have these titles and accounts
-- these names. The statements among them are those of a run over the same tables.
pub record AreDocumentsFor (said : Said) (tables : Tables) (titles : List (List ℕ × List ℕ)) (names : List (List ℕ))
    (files : List File) : Type 0 where
  pub statements : List (List (ℕ × ℤ))
  pub reasons : List Reason
  pub divided : AreDivided tables statements reasons
  pub printed : AreStatementsFor tables (text_of_book tables statements reasons)
  pub run : Run
  pub run_is : run ≡ record {
    tables = tables;
    statements = statements;
    reasons = reasons;
    title_of = text_in titles;
    names = names;
    lands = said.lands;
  }
  pub documents : AreDocuments said.distribution run files
