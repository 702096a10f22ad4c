use Rattle.std.proofs.Common.{◌≡◌, ◌∙◌, ℕ, List, None, Option, Some, ap, inl, inr, subst}
use Rattle.csv_table.specs.Table.{rows_of}
use Rattle.csv_table.proofs.ItemWalks as tables
use Rattle.cwr_share.proofs.PayeeRows as payees
use Rattle.cwr_share.specs.PayeeTable.{payee_rules}
use Rattle.cwr_share.proofs.OneRegistry as registrations
use Rattle.cwr_share.specs.CwrFile.{IsFaultOf as IsFaultOfFile}
use Rattle.cwr_share.specs.Lines.{lines_of}
use Rattle.cwr_share.specs.declared.payee_fault.PayeeFault.{PayeeFault}
use Rattle.cwr_share.specs.declared.payee_fault.PayeeFault.TheVariants.{Memory}
use Rattle.line_split.proofs.OneTable as uses
use Rattle.line_split.specs.UsageTable.{usage_rules}
use Rattle.tis_tree.proofs.OneTable as territories
use Rattle.tis_tree.specs.TisRows.{territory_rules}
use Rattle.run_inputs.specs.Faults.{fault_of_cwr, fault_of_payees, fault_of_tis, fault_of_usage}
use Rattle.run_inputs.specs.Inputs.{ArePayees, HaveNoFault, IsFaultOf, IsFaultOfPayees}
use Rattle.run_inputs.specs.declared.fault.Fault.{Fault}
use Rattle.run_inputs.specs.declared.fault.Fault.TheVariants.{Room}
use Rattle.run_inputs.specs.declared.inputs.Inputs.{Inputs}
use Rattle.run_inputs.proofs.OnePayees.{one_list}
use Rattle.run_inputs.proofs.laws.law_inputs_that_are_read_have_no_fault.Goals as goal

payees_that_are_read : (file : Option (List ℕ)) (rows : List (List ℕ × List ℕ)) (fault : PayeeFault) → ArePayees file rows → IsFaultOfPayees file fault → fault ≡ Memory
payees_that_are_read None rows fault are refused = absurd refused
payees_that_are_read (Some file) rows fault are refused = tables.no_fault payee_rules payees.not_refused (rows_of file) rows fault are refused

-- each input that was read is refused for nothing but lack of memory, which is no fault of an input
no_fault : (files : Inputs (List ℕ)) (fault : Fault) → HaveNoFault files → IsFaultOf files fault → fault ≡ Room
no_fault files fault sound (inl room) = room
no_fault files fault sound (inr (inl (own, refused, is))) =
    is ∙ ap fault_of_tis (tables.no_fault territory_rules territories.not_refused (rows_of files.territories) sound.tables.territories own sound.read.territories refused)
no_fault files fault sound (inr (inr (table, read, inl (own, refused, is)))) = is ∙ ap fault_of_payees (payees_that_are_read files.payees sound.read.rows own sound.read.payees refused)
no_fault files fault sound (inr (inr (table, read, inr (rows, are, inl (own, refused, is))))) =
    let same = one_list files.payees rows sound.read.rows are sound.read.payees in
    is ∙ ap fault_of_cwr (registrations.no_fault sound.read.rows (lines_of files.registrations) sound.tables.registry own sound.read.registrations sound.read.accounts
    (subst (λ (rows : List (List ℕ × List ℕ)). IsFaultOfFile rows (lines_of files.registrations) own) same refused))
no_fault files fault sound (inr (inr (table, read, inr (rows, are, inr (registered, registrations, (own, refused, is)))))) =
    is ∙ ap fault_of_usage (tables.no_fault usage_rules uses.not_refused (rows_of files.usage) sound.tables.usage own sound.read.uses refused)

pub returns : goal.returns
returns c = no_fault
