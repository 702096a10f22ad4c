-- The first of the faults that a report tells.
use Rattle.std.specs.Prelude.{◌∷◌, [], List, None, Option, Some}
use Rattle.check_inputs.specs.Found.{Found}
use Rattle.run_inputs.specs.Faults.{fault_of_cwr, fault_of_payees, fault_of_tis, fault_of_usage}
use Rattle.run_inputs.specs.declared.fault.Fault.{Fault}

-- the first of those of an input, as it is to a run; of each it is also said what row or line it is of
abbrev pub first_of : {R F X : Type 0} → (as_fault : F → X) → List (R × F) → Option X
first_of as_fault [] = None
first_of as_fault (out ∷ more) = Some (as_fault out.1)

-- this fault, where there is one, or else the other
abbrev pub or_later : {X : Type 0} → Option X → Option X → Option X
or_later (Some fault) later = Some fault
or_later None later = later

-- The first of all: a report tells those of an input behind those of the inputs before it, in the order of a run.
abbrev pub first_fault : Found → Option Fault
first_fault found =
    or_later (first_of fault_of_tis found.of_territories) (or_later (first_of fault_of_payees found.of_payees)
    (or_later (first_of fault_of_cwr found.of_registrations) (first_of fault_of_usage found.of_usage)))
