-- One submitter, whose registrations are each of the work with their own number, and its file run by itself.
use Rattle.std.proofs.Common.{◌≡◌, ◌∷◌, ℕ, List, [], ap, arith, subst, sym}
use Rattle.cwr_share.specs.Lines.{lines_of}
use Rattle.cwr_share.specs.RegistryOf.{IsRegistryOf}
use Rattle.linked_works.specs.Linked.{finds_in, shares_linked}
use Rattle.run_inputs.specs.Inputs as one_file
use Rattle.run_inputs.specs.declared.inputs.Inputs.{Inputs}
use Rattle.run_inputs.specs.declared.inputs.Tables.{Tables}
use Rattle.settle_run.specs.Settled as settled
use Rattle.submitted_inputs.specs.Submitted.{AreFiles, IsReading, finds_by}
use Rattle.submitted_inputs.specs.declared.inputs.SubmittedTables.{SubmittedTables}
use Rattle.works_laws.specs.ByNumbers.{ArePaidAsIn, IsByNumbers}
use Rattle.works_laws.proofs.OneFile.{accounts_of_one, answers_of_one}
use Rattle.submitted_laws.specs.Alike.{AnswerAlike, AreOfOneFile}
use Rattle.submitted_laws.specs.SubmittedStatements.{AreStatementsOf}
use Rattle.submitted_laws.proofs.Alike.{answer_alike, one_territories, one_text_alike, one_usage}

-- there is one file, with the one text
only_file : (bytes : List ℕ) (holds : ℕ → List ℕ → Type 0) (files : List (List ℕ)) → ((other : List ℕ) → holds 0 other → other ≡ bytes) → AreFiles holds 1 files → files ≡ bytes ∷ []
only_file bytes holds [] one is = absurd (omega (arith, is.all))
only_file bytes holds (file ∷ []) one is = ap (λ (text : List ℕ). text ∷ []) (one file (is.held 0 (omega arith)))
only_file bytes holds (file ∷ more ∷ files) one is = absurd (omega (arith, is.all))

module _ (name : List ℕ) (holds : ℕ → List ℕ → Type 0) (files : Inputs (List ℕ)) (inputs : SubmittedTables (List ℕ)) (are : AreOfOneFile name holds files inputs) where
  -- what the two runs read answers alike
  read_alike : (tables joined : Tables) → one_file.IsReading files tables → IsReading (name ∷ []) holds inputs joined → AnswerAlike joined tables
  read_alike tables joined is of =
      let numbers : IsByNumbers name (lines_of files.registrations) of.links = are.works of.links of.works_are in
      let paid : ArePaidAsIn name (lines_of files.registrations) is.rows of.rows = are.payees is.rows of.rows is.payees of.payees_are in
      let only : of.files ≡ files.registrations ∷ [] = only_file files.registrations holds of.files are.held of.files_are in
      let registry : IsRegistryOf of.rows (shares_linked (finds_in ((name, lines_of files.registrations) ∷ [])) of.links) joined.registry =
      subst (λ (held : List (List ℕ)). IsRegistryOf of.rows (shares_linked (finds_by (name ∷ []) held) of.links) joined.registry) only of.registrations.0 in
      answer_alike joined tables
      (one_territories inputs.territories files.territories joined.territories tables.territories (sym are.territories) of.territories is.territories)
      (one_usage inputs.usage files.usage joined.usage tables.usage (sym are.usage) of.uses is.uses)
      (accounts_of_one name (lines_of files.registrations) is.rows of.rows of.links numbers paid tables.registry joined.registry is.registrations is.accounts registry of.registrations.1)
      (answers_of_one name (lines_of files.registrations) is.rows of.rows of.links numbers paid tables.registry joined.registry is.registrations is.accounts registry of.registrations.1)

  -- so they have one text
  pub text_of_one_file : (text other : List ℕ) → settled.AreStatementsOf files text → AreStatementsOf (name ∷ []) holds inputs other → text ≡ other
  text_of_one_file text other is of =
      sym (one_text_alike of.tables is.tables other text (read_alike is.tables of.tables is.read of.read) of.statements is.statements)
