-- The inputs of a distribution run: what they are read as, and what they are refused for.
use Rattle.std.specs.Prelude.{ℕ, ◌≡◌, ◌⊎◌, IfSome, List, [], Option, Some, None}
use Rattle.std.specs.Option.{option_map}
use Rattle.csv_table.specs.Table.{rows_of}
use Rattle.tis_tree.specs.TisRows as tis
use Rattle.cwr_share.specs.Lines.{lines_of}
use Rattle.cwr_share.specs.CwrFile as cwr
use Rattle.cwr_share.specs.PayeeTable as payees
use Rattle.cwr_share.specs.declared.payee_fault.PayeeFault.{PayeeFault}
use Rattle.cwr_share.specs.Registered.{IsRegistered, Registered}
use Rattle.line_split.specs.UsageLine.{UsageLine}
use Rattle.line_split.specs.UsageTable as usage
use Rattle.run_inputs.specs.Faults.{fault_of_cwr, fault_of_payees, fault_of_tis, fault_of_usage}
use Rattle.run_inputs.specs.declared.fault.Fault.{Fault}
use Rattle.run_inputs.specs.declared.fault.Fault.TheVariants.{Room}
use Rattle.run_inputs.specs.declared.inputs.Inputs.{Inputs}
use Rattle.run_inputs.specs.declared.inputs.Tables.{Tables}

-- one record of these
abbrev pub inputs_of : {A : Type 0} → (territories : A) → (payees : Option A) → (registrations usage : A) → Inputs A
inputs_of territories payees registrations usage = record {
  territories = territories;
  payees = payees;
  registrations = registrations;
  usage = usage;
}

-- the same with other payees, or with other usage lines
abbrev pub with_payees : {A : Type 0} → Option A → Inputs A → Inputs A
with_payees payees inputs = inputs_of inputs.territories payees inputs.registrations inputs.usage

abbrev pub with_usage : {A : Type 0} → A → Inputs A → Inputs A
with_usage usage inputs = inputs_of inputs.territories inputs.payees inputs.registrations usage

-- each input by a function: a lent file's bytes, say
abbrev pub map_inputs : {A B : Type 0} → (A → B) → Inputs A → Inputs B
map_inputs f inputs = record {
  territories = f inputs.territories;
  payees = option_map f inputs.payees;
  registrations = f inputs.registrations;
  usage = f inputs.usage;
}

-- this holds of each input that there is
pub record HoldsOfEach {A : Type 0} (P : A → Type 0) (inputs : Inputs A) : Type 0 where
  pub territories : P inputs.territories
  pub payees : IfSome inputs.payees P
  pub registrations : P inputs.registrations
  pub usage : P inputs.usage

-- who is paid what a party claims, by an input that need not be there
abbrev pub ArePayees : Option (List ℕ) → List (List ℕ × List ℕ) → Type 0
ArePayees None rows = rows ≡ []
ArePayees (Some file) rows = payees.IsTableOf (rows_of file) rows

-- what claims are found by, in the lines of a CWR file and with these payees
abbrev pub AreRegistrations : (rows : List (List ℕ × List ℕ)) → (lines : List (List ℕ)) → Registered → Type 0
AreRegistrations rows lines registered = cwr.IsFileOf rows lines registered × IsRegistered registered

-- what the inputs were read as
pub record IsReading (files : Inputs (List ℕ)) (tables : Tables) : Type 0 where
  pub territories : tis.IsTableOf (rows_of files.territories) tables.territories
  pub rows : List (List ℕ × List ℕ)
  pub payees : ArePayees files.payees rows
  pub registrations : cwr.IsFileOf rows (lines_of files.registrations) tables.registry
  pub accounts : IsRegistered tables.registry
  pub uses : usage.IsTableOf (rows_of files.usage) tables.usage

-- these tables with other usage lines
abbrev pub with_lines : List UsageLine → Tables → Tables
with_lines lines tables = record { territories = tables.territories; registry = tables.registry; usage = lines }

-- no input has a fault: each was read whole
pub record HaveNoFault (files : Inputs (List ℕ)) : Type 0 where
  pub tables : Tables
  pub read : IsReading files tables

-- a table of payees is refused, where there is one
abbrev pub IsFaultOfPayees : Option (List ℕ) → PayeeFault → Type 0
IsFaultOfPayees None fault = ⊥
IsFaultOfPayees (Some file) fault = payees.IsFaultOf (rows_of file) fault

-- a fault of the run that is one of an input's own
abbrev pub IsFaultAs : {F : Type 0} → (as_fault : F → Fault) → (IsOwnFault : F → Type 0) → Fault → Type 0
IsFaultAs {F} as_fault IsOwnFault fault = (own : F) × IsOwnFault own × (fault ≡ as_fault own)

-- Inputs are read in order: this holds of the one at hand, or that one was read, and it holds of a later one.
abbrev pub ThisOrLater : {A X : Type 0} → (IsOfThis : X → Type 0) → (IsReadAs : A → Type 0)
    → (IsOfLater : A → X → Type 0) → X → Type 0
ThisOrLater {A} IsOfThis IsReadAs IsOfLater x = IsOfThis x ⊎ ((read : A) × IsReadAs read × IsOfLater read x)

-- What a run is refused for: the first input that is refused, for its first fault; those before it were read. Or for
-- lack of memory, which is no fault of an input.
abbrev pub IsFaultOf : (files : Inputs (List ℕ)) → Fault → Type 0
IsFaultOf files fault =
    let territories = rows_of files.territories in
    let registrations = lines_of files.registrations in
    (fault ≡ Room)
    ⊎ ThisOrLater (IsFaultAs fault_of_tis (tis.IsFaultOf territories)) (tis.IsTableOf territories) (λ _.
    ThisOrLater (IsFaultAs fault_of_payees (IsFaultOfPayees files.payees)) (ArePayees files.payees) (λ rows.
    ThisOrLater (IsFaultAs fault_of_cwr (cwr.IsFaultOf rows registrations)) (AreRegistrations rows registrations) (λ _.
    IsFaultAs fault_of_usage (usage.IsFaultOf (rows_of files.usage))))) fault
