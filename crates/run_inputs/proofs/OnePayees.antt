-- An input names one list of payees.
use Rattle.std.proofs.Common.{◌≡◌, ◌∙◌, ℕ, List, None, Option, Some, sym}
use Rattle.csv_table.specs.Table.{rows_of}
use Rattle.cwr_share.specs.PayeeTable.{payee_rules}
use Rattle.csv_table.proofs.ItemWalks.{one_table}
use Rattle.run_inputs.specs.Inputs.{ArePayees}

-- an input has one list of payees
pub one_list : (file : Option (List ℕ)) (rows other : List (List ℕ × List ℕ)) → ArePayees file rows → ArePayees file other → rows ≡ other
one_list None rows other is of = is ∙ sym of
one_list (Some file) rows other is of = one_table payee_rules (rows_of file) rows other is of
