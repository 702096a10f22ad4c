-- What the fault of an input is to a run: lack of memory is no fault of the input.
use Rattle.std.specs.Prelude.{ℕ, Option, None}
use Rattle.tis_tree.specs.TisRows as tis
use Rattle.tis_tree.specs.declared.tis_fault.TisFault.{TisFault}
use Rattle.tis_tree.specs.declared.tis_fault.TisFault.TheVariants as tis_fault
use Rattle.cwr_share.specs.CwrFile as cwr
use Rattle.cwr_share.specs.declared.cwr_fault.CwrFault.{CwrFault}
use Rattle.cwr_share.specs.declared.cwr_fault.CwrFault.TheVariants as cwr_fault
use Rattle.cwr_share.specs.PayeeTable as payees
use Rattle.cwr_share.specs.declared.payee_fault.PayeeFault.{PayeeFault}
use Rattle.cwr_share.specs.declared.payee_fault.PayeeFault.TheVariants as payee_fault
use Rattle.line_split.specs.UsageTable as usage
use Rattle.line_split.specs.declared.line_fault.LineFault.{LineFault}
use Rattle.line_split.specs.declared.line_fault.LineFault.TheVariants as line_fault
use Rattle.run_inputs.specs.declared.fault.Fault.{Fault}
use Rattle.run_inputs.specs.declared.fault.Fault.TheVariants.{Tis, Cwr, Usage, Room, Payee}

abbrev pub fault_of_tis : TisFault → Fault
fault_of_tis tis_fault.Memory = Room
fault_of_tis fault = Tis fault

abbrev pub fault_of_cwr : CwrFault → Fault
fault_of_cwr cwr_fault.Memory = Room
fault_of_cwr fault = Cwr fault

abbrev pub fault_of_usage : LineFault → Fault
fault_of_usage line_fault.Memory = Room
fault_of_usage fault = Usage fault

abbrev pub fault_of_payees : PayeeFault → Fault
fault_of_payees payee_fault.Memory = Room
fault_of_payees fault = Payee fault

-- the fault's number
abbrev pub number_of_fault : Fault → ℕ
number_of_fault (Tis fault) = 1
number_of_fault (Cwr fault) = 2
number_of_fault (Usage fault) = 3
number_of_fault Room = 4
number_of_fault (Payee fault) = 5

-- the place of the fault within
abbrev pub place_of_fault : Fault → Option ℕ
place_of_fault (Tis fault) = tis.place_of_fault fault
place_of_fault (Cwr fault) = cwr.place_of_fault fault
place_of_fault (Usage fault) = usage.place_of_fault fault
place_of_fault Room = None
place_of_fault (Payee fault) = payees.place_of_fault fault
