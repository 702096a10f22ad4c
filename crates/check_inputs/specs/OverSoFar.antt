-- Claims of submitters by rows and files as they are read. Contracts of private functions alone cite it, and no promise
-- rests on it.
use Rattle.std.specs.Prelude.{ℕ, [], List, Option, slice_index_or}
use Rattle.std.specs.List.{filter_map}
use Rattle.std.specs.Option.{option_map}
use Rattle.cwr_share.specs.ClaimsOn.{claimed_in}
use Rattle.cwr_share.specs.Registrations.{ShareLine, find_work}
use Rattle.line_split.specs.declared.usage.Right.{Right}
use Rattle.linked_works.specs.Linked.{Finds, Link}
use Rattle.linked_works.specs.declared.works.WorksRow.{WorksRow}

-- the registration in force that a row links, with its submitter
abbrev pub registration_of : Finds → Link → Option (List ℕ × List ShareLine)
registration_of finds link = option_map (λ shares. (link.submitter, shares)) (finds link.submitter link.number)

-- those that rows link
abbrev pub registrations_of : Finds → List Link → List (List ℕ × List ShareLine)
registrations_of finds links = filter_map (registration_of finds) links

-- what the registration that a row links claims in a land, with its submitter, by what is in force in the files
abbrev pub claim_by_row : List (ℕ × List ℕ) → List (List (List ℕ × List ShareLine)) → (land : ℕ) → Right → WorksRow
    → Option (List ℕ × ℕ)
claim_by_row table files land right row = option_map (λ shares. (row.name.now, claimed_in table land right shares))
    (find_work row.number.now (slice_index_or files row.submitter []))
