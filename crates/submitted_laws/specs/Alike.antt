-- Runs that come to the same, whatever else differs between them.
use Rattle.std.specs.Prelude.{ℕ, ◌≡◌, ◌∷◌, [], List, length, map, zip}
use Rattle.csv_table.specs.Table.{rows_of}
use Rattle.cwr_share.specs.ClaimsOn.{claims_on, reason_against}
use Rattle.cwr_share.specs.Lines.{lines_of}
use Rattle.line_split.specs.UsageLine.{UsageLine}
use Rattle.linked_works.specs.Linked.{Link}
use Rattle.linked_works.specs.WorksTable.{IsTableOf}
use Rattle.run_inputs.specs.Inputs as one_file
use Rattle.run_inputs.specs.declared.inputs.Inputs.{Inputs}
use Rattle.run_inputs.specs.declared.inputs.Tables.{Tables}
use Rattle.submitted_inputs.specs.Submitted.{AreFiles, ArePayees}
use Rattle.submitted_inputs.specs.declared.inputs.SubmittedTables.{SubmittedTables}
use Rattle.works_laws.specs.ByNumbers.{ArePaidAsIn, IsByNumbers}
use Rattle.works_laws.specs.Reordered.{AreReordered}

-- Two runs read the same territories and usage lines, and the registries that they read have the same accounts, and on
-- each line the same claims and the same reason against all of them.
pub record AnswerAlike (tables other : Tables) : Type 0 where
  pub territories : tables.territories ≡ other.territories
  pub usage : tables.usage ≡ other.usage
  pub accounts : tables.registry.accounts ≡ other.registry.accounts
  pub claims : (line : UsageLine)
      → claims_on tables.territories tables.registry line ≡ claims_on other.territories other.registry line
  pub reasons : (line : UsageLine)
      → reason_against tables.territories tables.registry line ≡ reason_against other.territories other.registry line

-- A run over one file, and one over the files of submitters of whom there is one, with that file: the table of works
-- has a row for each registration in force, of the work with the registration's own number, and parties in force are
-- paid as by the table of payees of the file.
pub record AreOfOneFile (name : List ℕ) (holds : ℕ → List ℕ → Type 0) (files : Inputs (List ℕ))
    (inputs : SubmittedTables (List ℕ)) : Type 0 where
  pub territories : files.territories ≡ inputs.territories
  pub usage : files.usage ≡ inputs.usage
  pub held : (bytes : List ℕ) → holds 0 bytes → bytes ≡ files.registrations
  pub works : (links : List Link) → IsTableOf (name ∷ []) (rows_of inputs.works) links
      → IsByNumbers name (lines_of files.registrations) links
  pub payees : (rows named : List (List ℕ × List ℕ)) → one_file.ArePayees files.payees rows
      → ArePayees (name ∷ []) inputs.payees named → ArePaidAsIn name (lines_of files.registrations) rows named

-- Two runs over the files of submitters, with the same territories and usage lines: what the files and the tables of
-- works and of payees of the one are read as is what those of the other are read as, in another order.
pub record AreOfAnyOrder (names others : List (List ℕ)) (holds held : ℕ → List ℕ → Type 0)
    (inputs moved : SubmittedTables (List ℕ)) : Type 0 where
  pub territories : inputs.territories ≡ moved.territories
  pub usage : inputs.usage ≡ moved.usage
  pub reordered : (files later : List (List ℕ)) (links relinked : List Link) (rows mixed : List (List ℕ × List ℕ))
      → AreFiles holds (length names) files → IsTableOf names (rows_of inputs.works) links
      → ArePayees names inputs.payees rows
      → AreFiles held (length others) later → IsTableOf others (rows_of moved.works) relinked
      → ArePayees others moved.payees mixed
      → AreReordered (zip names (map lines_of files)) (zip others (map lines_of later)) links relinked rows mixed

-- the file of each place has one text
pub record HoldsOneText (holds : ℕ → List ℕ → Type 0) : Type 0 where
  pub same : (place : ℕ) (bytes other : List ℕ) → holds place bytes → holds place other → bytes ≡ other

-- no file both has a text and cannot be read
pub record RefusesNoText (holds : ℕ → List ℕ → Type 0) (refuses : ℕ → Type 0) : Type 0 where
  pub none : (place : ℕ) (bytes : List ℕ) → holds place bytes → ¬ refuses place
