-- What a run over the files of several submitters answers, over its inputs.
use Rattle.std.specs.Prelude.{ℕ, List}
use Rattle.run_inputs.specs.declared.inputs.Tables.{Tables}
use Rattle.settle_run.specs.Settled.{AreStatementsFor}
use Rattle.submitted_inputs.specs.Submitted.{IsReading}
use Rattle.submitted_inputs.specs.declared.inputs.SubmittedTables.{SubmittedTables}

-- The text of the statements of the tables, and of the files of submitters with these names: by the same words as that
-- of a run over one file.
pub record AreStatementsOf (names : List (List ℕ)) (holds : ℕ → List ℕ → Type 0) (inputs : SubmittedTables (List ℕ))
    (text : List ℕ) : Type 0 where
  pub tables : Tables
  pub read : IsReading names holds inputs tables
  pub statements : AreStatementsFor tables text
