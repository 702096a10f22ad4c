-- The titles of works.
use Rattle.std.specs.Prelude.{ℕ, List, [], map, slice_index_or}
use Rattle.cwr_share.specs.Fields.{trimmed}
use Rattle.linked_works.specs.WorksTable.{work_field}
use Rattle.starting_tables.specs.InForce.{number_of, registrations_in_force}
use Rattle.starting_tables.specs.Works.{title_of}

-- the titles of the registrations in force of a file, each by its submitter work number
abbrev pub titles_of_registrations : (lines : List (List ℕ)) → List (List ℕ × List ℕ)
titles_of_registrations lines =
    map (λ registration. (number_of registration, title_of registration)) (registrations_in_force lines)

-- those of rows of a table of works, each by the name of the work
abbrev pub titles_in_rows : (rows : List (List (List ℕ))) → List (List ℕ × List ℕ)
titles_in_rows rows = map (λ row. (work_field row, trimmed (slice_index_or row 3 []))) rows
