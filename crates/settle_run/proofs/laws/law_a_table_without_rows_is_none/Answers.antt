use Rattle.std.proofs.Common.{◌≡◌, ◌∙◌, ◌∷◌, ℕ, List, None, Option, Some, [], arith, refl}
use Rattle.csv_table.specs.Table.{rows_of}
use Rattle.cwr_share.specs.PayeeTable.{header}
use Rattle.run_inputs.specs.Inputs.{ArePayees, with_payees}
use Rattle.run_inputs.specs.declared.inputs.Inputs.{Inputs}
use Rattle.settle_run.specs.Settled.{AreStatementsOf}
use Rattle.settle_run.proofs.laws.law_a_table_without_rows_is_none.Goals as goal

-- what the one input says of the payees, the other says too
as_well : (files : Inputs (List ℕ)) (file other : Option (List ℕ)) (text : List ℕ) → ((rows : List (List ℕ × List ℕ)) → ArePayees file rows → ArePayees other rows)
    → AreStatementsOf (with_payees file files) text → AreStatementsOf (with_payees other files) text
as_well files file other text also is = record {
  tables = is.tables;
  read = record {
    territories = is.read.territories;
    rows = is.read.rows;
    payees = also is.read.rows is.read.payees;
    registrations = is.read.registrations;
    accounts = is.read.accounts;
    uses = is.read.uses;
  };
  statements = is.statements;
}

-- a header alone is a table of no payees
none : (payees_file : List ℕ) (rows : List (List ℕ × List ℕ)) → rows_of payees_file ≡ header ∷ [] → ArePayees (Some payees_file) rows → ArePayees None rows
none payees_file rows alone is =
    let below : is.below ≡ [] = cc in
    is.are.same ∙ rw below refl

alone_is_table : (payees_file : List ℕ) (rows : List (List ℕ × List ℕ)) → rows_of payees_file ≡ header ∷ [] → ArePayees None rows → ArePayees (Some payees_file) rows
alone_is_table payees_file rows alone empty = record {
  below = [];
  headed = alone;
  are = record { few = omega arith; sound = λ place within. absurd (omega (arith, within)); same = empty };
}

pub returns : goal.returns
returns c = λ files payees_file text alone. (
  as_well files (Some payees_file) None text (λ rows. none payees_file rows alone),
  as_well files None (Some payees_file) text (λ rows. alone_is_table payees_file rows alone),
)
