-- Files, rows of the table of works and rows of the table of payees in another order.
use Rattle.std.proofs.Common.{◌≡◌, ℕ, List, map}
use Rattle.std.specs.Prelude.{zip}
use Rattle.cwr_share.specs.Lines.{lines_of}
use Rattle.run_inputs.specs.declared.inputs.Tables.{Tables}
use Rattle.submitted_inputs.specs.Submitted.{IsReading}
use Rattle.submitted_inputs.specs.declared.inputs.SubmittedTables.{SubmittedTables}
use Rattle.works_laws.specs.Reordered.{AreReordered}
use Rattle.works_laws.proofs.Moved.{accounts_moved, answers_moved}
use Rattle.submitted_laws.specs.Alike.{AnswerAlike, AreOfAnyOrder}
use Rattle.submitted_laws.specs.SubmittedStatements.{AreStatementsOf}
use Rattle.submitted_laws.proofs.Alike.{answer_alike, one_territories, one_text_alike, one_usage}

module _ (names others : List (List ℕ)) (holds held : ℕ → List ℕ → Type 0) (inputs moved : SubmittedTables (List ℕ)) (are : AreOfAnyOrder names others holds held inputs moved) where
  -- what the two runs read answers alike
  read_alike : (tables other : Tables) → IsReading names holds inputs tables → IsReading others held moved other → AnswerAlike tables other
  read_alike tables other is of =
      let files : List (List ℕ × List (List ℕ)) = zip names (map lines_of is.files) in
      let later : List (List ℕ × List (List ℕ)) = zip others (map lines_of of.files) in
      let reordered : AreReordered files later is.links of.links is.rows of.rows =
      are.reordered is.files of.files is.links of.links is.rows of.rows is.files_are is.works_are is.payees_are of.files_are of.works_are of.payees_are in
      answer_alike tables other
      (one_territories inputs.territories moved.territories tables.territories other.territories are.territories is.territories of.territories)
      (one_usage inputs.usage moved.usage tables.usage other.usage are.usage is.uses of.uses)
      (accounts_moved files later is.links of.links is.rows of.rows reordered tables.registry other.registry is.registrations.0 is.registrations.1 of.registrations.0 of.registrations.1)
      (answers_moved files later is.links of.links is.rows of.rows reordered tables.registry other.registry is.registrations.0 is.registrations.1 of.registrations.0 of.registrations.1)

  -- so they have one text
  pub text_in_any_order : (text other : List ℕ) → AreStatementsOf names holds inputs text → AreStatementsOf others held moved other → text ≡ other
  text_in_any_order text other is of =
      one_text_alike is.tables of.tables text other (read_alike is.tables of.tables is.read of.read) is.statements of.statements
