-- What is found in the inputs of a run where each is read on past what is refused in it.
use Rattle.std.specs.Prelude.{ℕ, ◌≡◌, ◌==◌, ◌&&◌, Bool, true, false, List, [], Option, Some, None, length}
use Rattle.csv_table.specs.Table.{rows_of}
use Rattle.cwr_share.specs.CwrReading as cwr
use Rattle.cwr_share.specs.Lines.{lines_of}
use Rattle.cwr_share.specs.PayeeTable as payees
use Rattle.cwr_share.specs.Registered.{IsRegistered, Registered}
use Rattle.cwr_share.specs.declared.cwr_fault.CwrFault.{CwrFault}
use Rattle.cwr_share.specs.declared.payee_fault.PayeeFault.{PayeeFault}
use Rattle.line_split.specs.UsageLine.{UsageLine}
use Rattle.line_split.specs.UsageTable as usage
use Rattle.line_split.specs.declared.line_fault.LineFault.{LineFault}
use Rattle.run_inputs.specs.declared.inputs.Inputs.{Inputs}
use Rattle.tis_tree.specs.TisRows as tis
use Rattle.tis_tree.specs.declared.tis_fault.TisFault.{TisFault}
use Rattle.usage_totals.specs.Totals.{AreTotalsOf}
use Rattle.usage_totals.specs.declared.totals.Totals.{Totals}

-- a table of payees that need not be there is read without these rows
abbrev pub ArePayeesWithout : Option (List ℕ) → List (List (List ℕ) × PayeeFault) → List (List ℕ × List ℕ) → Type 0
ArePayeesWithout None out rows = (out ≡ []) × (rows ≡ [])
ArePayeesWithout (Some file) out rows = payees.IsReadWithout (rows_of file) out rows

-- a CWR file is read without these lines, and what is left has registrations, if not too many payees
abbrev pub AreRegistrationsWithout : List (List ℕ × List ℕ) → List (List ℕ) → List (List ℕ × CwrFault)
    → Option Registered → Type 0
AreRegistrationsWithout rows lines out (Some registered) =
    cwr.IsReadWithout rows lines out registered × IsRegistered registered
AreRegistrationsWithout rows lines out None = cwr.HasTooManyWithout rows lines out

-- the faults of each, and what the rest was read as
pub record Found : Type 0 where
  pub of_territories : List (List (List ℕ) × TisFault)
  pub of_payees : List (List (List ℕ) × PayeeFault)
  pub of_registrations : List (List ℕ × CwrFault)
  pub of_usage : List (List (List ℕ) × LineFault)
  pub table : List (ℕ × List ℕ)
  pub rows : List (List ℕ × List ℕ)
  pub registered : Option Registered
  pub lines : List UsageLine
  -- what a run makes of the lines
  pub totals : Option Totals

-- there are totals where there are registrations and no file has a fault
abbrev pub AreTotalsIfSound : (sound : Bool) → List (ℕ × List ℕ) → Option Registered → List UsageLine → Option Totals
    → Type 0
AreTotalsIfSound true table (Some registered) lines (Some totals) = AreTotalsOf table registered lines totals
AreTotalsIfSound true table (Some registered) lines None = ⊥
AreTotalsIfSound true table None lines totals = totals ≡ None
AreTotalsIfSound false table registered lines totals = totals ≡ None

-- no file has a fault
abbrev pub is_sound : Found → Bool
is_sound found = (length found.of_territories == 0) && (length found.of_payees == 0)
    && (length found.of_registrations == 0) && (length found.of_usage == 0)

-- Each input is read whatever stands in the others: the payees are those of the rows that were read.
pub record IsFoundIn (files : Inputs (List ℕ)) (found : Found) : Type 0 where
  pub territories : tis.IsReadWithout (rows_of files.territories) found.of_territories found.table
  pub payees : ArePayeesWithout files.payees found.of_payees found.rows
  pub registrations : AreRegistrationsWithout found.rows
      (lines_of files.registrations) found.of_registrations found.registered
  pub usage : usage.IsReadWithout (rows_of files.usage) found.of_usage found.lines
  pub totals : AreTotalsIfSound (is_sound found) found.table found.registered found.lines found.totals
