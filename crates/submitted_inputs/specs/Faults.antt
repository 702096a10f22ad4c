-- What the fault of an input is to a run over several files: lack of memory is no fault of the input.
use Rattle.cwr_share.specs.declared.payee_fault.PayeeFault.{PayeeFault}
use Rattle.cwr_share.specs.declared.payee_fault.PayeeFault.TheVariants as payee_fault
use Rattle.line_split.specs.declared.line_fault.LineFault.{LineFault}
use Rattle.line_split.specs.declared.line_fault.LineFault.TheVariants as line_fault
use Rattle.linked_works.specs.declared.works_fault.WorksFault.{WorksFault}
use Rattle.linked_works.specs.declared.works_fault.WorksFault.TheVariants as works_fault
use Rattle.tis_tree.specs.declared.tis_fault.TisFault.{TisFault}
use Rattle.tis_tree.specs.declared.tis_fault.TisFault.TheVariants as tis_fault
use Rattle.submitted_inputs.specs.declared.fault.SubmittedFault.{SubmittedFault}
use Rattle.submitted_inputs.specs.declared.fault.SubmittedFault.TheVariants.{Tis, Payee, Works, Usage, Room}

abbrev pub fault_of_tis : TisFault → SubmittedFault
fault_of_tis tis_fault.Memory = Room
fault_of_tis fault = Tis fault

abbrev pub fault_of_payees : PayeeFault → SubmittedFault
fault_of_payees payee_fault.Memory = Room
fault_of_payees fault = Payee fault

abbrev pub fault_of_works : WorksFault → SubmittedFault
fault_of_works works_fault.Memory = Room
fault_of_works fault = Works fault

abbrev pub fault_of_usage : LineFault → SubmittedFault
fault_of_usage line_fault.Memory = Room
fault_of_usage fault = Usage fault
