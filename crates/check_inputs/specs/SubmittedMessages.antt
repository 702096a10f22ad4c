-- What is wrong with a row of the tables of several submitters, in words, with the field as it stands.
use Rattle.std.specs.Prelude.{ℕ, ◌-◌, ◌==◌, ◌++◌, [], List, codes, if◌then◌else◌, slice_index_or}
use Rattle.cwr_share.specs.declared.payee_fault.PayeeFault.{PayeeFault}
use Rattle.cwr_share.specs.declared.payee_fault.PayeeFault.TheVariants as payee
use Rattle.linked_works.specs.Linked.{Link}
use Rattle.linked_works.specs.declared.works_fault.WorksFault.{WorksFault}
use Rattle.linked_works.specs.declared.works_fault.WorksFault.TheVariants as works
use Rattle.check_inputs.specs.Messages.{around, at, fields_message, names_message}

abbrev pub submitter_payee_message : List (List ℕ) → PayeeFault → List ℕ
submitter_payee_message row (payee.Csv n) =
    if n == 0 then codes "the first row is not submitter,party,payee,name" else fields_message 4 row
submitter_payee_message row (payee.Fields n) = names_message (at row 1) (at row 2)
submitter_payee_message row (payee.Submitter n) =
    around (codes "submitter '") (at row 0) (codes "' is the name of no file")
submitter_payee_message row (payee.Twice n) =
    around (codes "party '") (at row 1) (codes "' of submitter '")
    ++ around [] (at row 0) (codes "' has an earlier row")
submitter_payee_message row payee.Rows = codes "there are more than 1048576 rows"
submitter_payee_message row payee.Memory = []

-- what a row is refused for; what the links are refused for is told separately
abbrev pub works_message : List (List ℕ) → WorksFault → List ℕ
works_message row (works.Csv n) =
    if n == 0 then codes "the first row is not work,submitter,number,title" else fields_message 4 row
works_message row (works.Work n) = around (codes "work '") (at row 0)
    (codes "' is not 1 to 64 printable ASCII characters")
works_message row (works.Submitter n) = around (codes "submitter '") (at row 1) (codes "' is the name of no file")
works_message row (works.Number n) = around (codes "number '") (at row 2)
    (codes "' is not 1 to 14 printable ASCII characters, spaces at its ends not counted")
works_message row (works.Twice n) =
    around (codes "number '") (at row 2) (codes "' of submitter '")
    ++ around [] (at row 1) (codes "' has an earlier row")
works_message row works.Rows = codes "there are more than 1048576 rows"
works_message row _ = []

-- the work of a row; rows count from 1
abbrev pub work_of_row : List Link → ℕ → List ℕ
work_of_row links row = (slice_index_or links (row - 1) (record { work = []; submitter = []; number = [] })).work

-- what links are refused for
abbrev pub links_message : List Link → WorksFault → List ℕ
links_message links (works.Many n) =
    around (codes "with this row the parties of work '") (work_of_row links n) (codes "' have more than 256 payees")
links_message links works.Accounts =
    codes "the parties of all registrations that are linked have more than 16383 payees"
links_message links _ = []
