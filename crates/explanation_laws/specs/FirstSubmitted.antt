-- The first of the faults that a report on the files of submitters tells.
use Rattle.std.specs.Prelude.{ℕ, ◌+◌, ◌∷◌, [], List, None, Option}
use Rattle.std.specs.Option.{option_map}
use Rattle.check_inputs.specs.SubmittedFound.{FileFound, SubmittedFound}
use Rattle.submitted_inputs.specs.Faults.{fault_of_payees, fault_of_tis, fault_of_usage, fault_of_works}
use Rattle.submitted_inputs.specs.declared.fault.SubmittedFault.{SubmittedFault}
use Rattle.submitted_inputs.specs.declared.fault.SubmittedFault.TheVariants.{Cwr}
use Rattle.explanation_laws.specs.FirstFound.{first_of, or_later}

-- the first of those of CWR files, of which the first has this place among all files
abbrev pub first_of_files : (place : ℕ) → List FileFound → Option SubmittedFault
first_of_files place [] = None
first_of_files place (file ∷ files) =
    or_later (first_of (λ fault. Cwr place fault) file.faults) (first_of_files (place + 1) files)

-- The first of all: a report tells those of an input behind those of the inputs before it, in the order of a run, and
-- what the links are refused for behind those of the CWR files.
abbrev pub first_submitted_fault : SubmittedFound → Option SubmittedFault
first_submitted_fault found =
    or_later (first_of fault_of_tis found.of_territories) (or_later (first_of fault_of_payees found.of_payees)
    (or_later (first_of fault_of_works found.of_works) (or_later (first_of_files 0 found.files)
    (or_later (option_map fault_of_works found.of_links) (first_of fault_of_usage found.of_usage)))))
