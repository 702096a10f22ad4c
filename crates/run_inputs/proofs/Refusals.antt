-- Why inputs are refused, where those before them were read.
use Rattle.std.proofs.Common.{ℕ, List, inl, inr, refl}
use Rattle.csv_table.specs.Table.{rows_of}
use Rattle.cwr_share.specs.CwrFile as cwr
use Rattle.cwr_share.specs.Lines.{lines_of}
use Rattle.cwr_share.specs.Registered.{Registered}
use Rattle.cwr_share.specs.declared.cwr_fault.CwrFault.{CwrFault}
use Rattle.line_split.specs.UsageTable as usage
use Rattle.line_split.specs.declared.line_fault.LineFault.{LineFault}
use Rattle.tis_tree.specs.TisRows as tis
use Rattle.run_inputs.specs.Faults.{fault_of_cwr, fault_of_usage}
use Rattle.run_inputs.specs.Inputs.{ArePayees, AreRegistrations, IsFaultOf}
use Rattle.run_inputs.specs.declared.inputs.Inputs.{Inputs}

module _ (files : Inputs (List ℕ)) (table : List (ℕ × List ℕ)) (territories : tis.IsTableOf (rows_of files.territories) table)
    (rows : List (List ℕ × List ℕ)) (payees : ArePayees files.payees rows) where
  pub cwr_fault : (fault : CwrFault) → cwr.IsFaultOf rows (lines_of files.registrations) fault → IsFaultOf files (fault_of_cwr fault)
  cwr_fault fault refused = inr (inr (table, territories, inr (rows, payees, inl (fault, refused, refl))))

  pub usage_fault : (registered : Registered) → AreRegistrations rows (lines_of files.registrations) registered
      → (fault : LineFault) → usage.IsFaultOf (rows_of files.usage) fault → IsFaultOf files (fault_of_usage fault)
  usage_fault registered registrations fault refused = inr (inr (table, territories, inr (rows, payees, inr (registered, registrations, (fault, refused, refl)))))
