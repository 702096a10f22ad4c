-- The names of payees.
use Rattle.std.specs.Prelude.{ℕ, ◌+◌, ◌==◌, ◌&&◌, [], Bool, List, None, Option, Some, drop, if◌then◌else◌, length, map, nat_eq}
use Rattle.std.specs.Prelude.{slice_index, slice_index_or, take}
use Rattle.std.specs.Cmp.Lexicographic.{pointwise}
use Rattle.std.specs.Option.{option_map_or}
use Rattle.cwr_share.specs.Fields.{trimmed}
use Rattle.linked_works.specs.SubmitterPayees.{payee_field}
use Rattle.starting_tables.specs.InForce.{bodies_of, registrations_in_force}
use Rattle.starting_tables.specs.Parties.{name_of}
use Rattle.document_names.specs.FirstTexts.{is_said}

-- the name that a file has for a party, by its registrations in force
abbrev pub name_in : (lines : List (List ℕ)) → (party : List ℕ) → List ℕ
name_in lines party = name_of (bodies_of (registrations_in_force lines)) party

-- the names that rows of a table of payees have, each by its payee
abbrev pub names_in_rows : (rows : List (List (List ℕ))) → List (List ℕ × List ℕ)
names_in_rows rows = map (λ row. (payee_field row, trimmed (slice_index_or row 3 []))) rows

-- an account begins with a submitter's name and a colon
abbrev pub begins_with : (submitter account : List ℕ) → Bool
begins_with submitter account =
    pointwise nat_eq (take (length submitter) account) submitter && (slice_index account (length submitter) == 58)

-- the party of a submitter that such an account is
abbrev pub party_behind : (submitter account : List ℕ) → Option (List ℕ)
party_behind submitter account =
    if begins_with submitter account then Some (drop (length submitter + 1) account) else None

-- the name of an account, or else what the file of a submitter has for its party
abbrev pub named_by : (submitter : List ℕ) → (lines : List (List ℕ)) → (account name : List ℕ) → List ℕ
named_by submitter lines account name =
    if is_said name then name else option_map_or (name_in lines) (party_behind submitter account) []
