-- What a report on the inputs of a run has to be.
use Rattle.std.specs.Prelude.{ℕ, ◌≡◌, ◌++◌, Bool, List, [], Option, string_bytes, unwrap_or}
use Rattle.std.specs.Option.{option_map, option_map_or}
use Rattle.run_inputs.specs.declared.inputs.Inputs.{Inputs}
use Rattle.check_inputs.specs.Form.{quote_if_given}
use Rattle.check_inputs.specs.Found.{Found, IsFoundIn, is_sound}
use Rattle.check_inputs.specs.Report.{payees_facts, report_of}
use Rattle.check_inputs.specs.declared.report.File.{File}

-- the path of a file, and what is in it
abbrev pub path_of : File → List ℕ
path_of file = string_bytes file.path

abbrev pub bytes_of : File → List ℕ
bytes_of file = file.bytes.items

-- the path of a file that need not be there
abbrev pub path_if_given : Option File → List ℕ
path_if_given file = unwrap_or (option_map path_of file) []

-- what is said to be in a table of payees that need not be there
abbrev pub payee_facts : Option File → (faults : ℕ) → List (List ℕ × List ℕ) → List ℕ
payee_facts file faults rows =
    option_map_or (λ path. payees_facts path faults rows) (option_map path_of file) []
    ++ quote_if_given (path_if_given file) (option_map bytes_of file)

-- the text is the report, and tells whether no file has a fault
pub record IsReportOn (paths files : Inputs (List ℕ)) (text : List ℕ) (sound : Bool) : Type 0 where
  pub found : Found
  pub inputs : IsFoundIn files found
  pub written : text ≡ report_of paths files found
  pub told : sound ≡ is_sound found
