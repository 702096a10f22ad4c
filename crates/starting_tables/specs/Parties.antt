-- The table of payees to begin with: its rows, each of four fields.
use Rattle.std.specs.Prelude.{ℕ, ◌==◌, ◌∷◌, ◌++◌, ◌&&◌, ◌||◌, Bool, List, [], Option, not, if◌then◌else◌}
use Rattle.std.specs.Prelude.{codes, filter, find, fold, length, map, nat_eq, reverse}
use Rattle.std.specs.BTreeSet.{insert_key}
use Rattle.std.specs.Cmp.Lexicographic.{pointwise, slice_cmp}
use Rattle.std.specs.Option.{option_map_or}
use Rattle.std.specs.Ordering.{nat_cmp}
use Rattle.cwr_share.specs.Fields.{field_of, trimmed}
use Rattle.cwr_share.specs.Joined.{qualified}
use Rattle.cwr_share.specs.declared.fields.TheConstants.{TYPE}
use Rattle.cwr_share.specs.Records.{is_share_line, opens_interest, share_fields}
use Rattle.starting_tables.specs.InForce.{bodies_of, registrations_in_force}
use Rattle.starting_tables.specs.Numbers.{is_number}
use Rattle.starting_tables.specs.declared.fields.TheConstants.{SPU_IPI, SPU_NAME, SPU_NUMBER}
use Rattle.starting_tables.specs.declared.fields.TheConstants.{SWR_FIRST_NAME, SWR_IPI, SWR_LAST_NAME, SWR_NUMBER}

-- the party of a share line
abbrev pub share_party : List ℕ → List ℕ
share_party line = trimmed (field_of (share_fields line).party line)

-- the parties of the share lines among these lines, each once and in byte order
abbrev pub parties_of : List (List ℕ) → List (List ℕ)
parties_of lines = fold (insert_key (slice_cmp nat_cmp)) [] (map share_party (filter is_share_line lines))

-- of an SPU or SWR record: it is a publisher's
abbrev pub is_publisher : List ℕ → Bool
is_publisher line = pointwise nat_eq (field_of TYPE line) (codes "SPU")

-- the number of its party, and what it has for an IPI name number
abbrev pub record_number : List ℕ → List ℕ
record_number line = trimmed (field_of (if is_publisher line then SPU_NUMBER else SWR_NUMBER) line)

abbrev pub record_ipi : List ℕ → List ℕ
record_ipi line = trimmed (field_of (if is_publisher line then SPU_IPI else SWR_IPI) line)

-- a first and a last name, with a space between them where both are there
abbrev pub whole_name : (first last : List ℕ) → List ℕ
whole_name first last =
    if (length first == 0) || (length last == 0) then first ++ last else first ++ 32 ∷ last

-- its name
abbrev pub record_name : List ℕ → List ℕ
record_name line =
    if is_publisher line then trimmed (field_of SPU_NAME line)
    else whole_name (trimmed (field_of SWR_FIRST_NAME line)) (trimmed (field_of SWR_LAST_NAME line))

abbrev pub has_name : List ℕ → Bool
has_name line = not (length (record_name line) == 0)

abbrev pub has_ipi : List ℕ → Bool
has_ipi line = is_number 11 (record_ipi line)

-- the last of the SPU and SWR records of a party, among these lines, that has what is sought
abbrev pub last_record : (has : List ℕ → Bool) → (lines : List (List ℕ)) → (party : List ℕ) → Option (List ℕ)
last_record has lines party =
    find (λ line. opens_interest line && pointwise nat_eq (record_number line) party && has line) (reverse lines)

-- the name of a party, and the payee: its IPI name number, or else an account of its own
abbrev pub name_of : (lines : List (List ℕ)) → (party : List ℕ) → List ℕ
name_of lines party = option_map_or record_name (last_record has_name lines party) []

abbrev pub payee_of : (submitter : List ℕ) → (lines : List (List ℕ)) → (party : List ℕ) → List ℕ
payee_of submitter lines party = option_map_or record_ipi (last_record has_ipi lines party) (qualified submitter party)

-- the row of a party
abbrev pub party_row : (submitter : List ℕ) → (lines : List (List ℕ)) → (party : List ℕ) → List (List ℕ)
party_row submitter lines party = submitter ∷ party ∷ payee_of submitter lines party ∷ name_of lines party ∷ []

-- the rows of the parties of these lines
abbrev pub rows_of_parties : (submitter : List ℕ) → (lines : List (List ℕ)) → List (List (List ℕ))
rows_of_parties submitter lines = map (party_row submitter lines) (parties_of lines)

-- those of a file: of the lines of its registrations in force
abbrev pub party_rows : (submitter : List ℕ) → (lines : List (List ℕ)) → List (List (List ℕ))
party_rows submitter lines = rows_of_parties submitter (bodies_of (registrations_in_force lines))
