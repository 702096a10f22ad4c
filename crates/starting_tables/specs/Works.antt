-- The table of works to begin with: its rows, each of four fields.
use Rattle.std.specs.Prelude.{ℕ, ◌∷◌, ◌&&◌, Bool, List, [], map, nat_eq, not, take, if◌then◌else◌}
use Rattle.std.specs.List.{enumerate_from, list_any}
use Rattle.std.specs.Cmp.Lexicographic.{pointwise}
use Rattle.cwr_share.specs.Fields.{field_of, trimmed}
use Rattle.cwr_share.specs.Joined.{qualified}
use Rattle.starting_tables.specs.InForce.{Registration, number_of, registrations_in_force}
use Rattle.starting_tables.specs.Numbers.{is_iswc}
use Rattle.starting_tables.specs.declared.fields.TheConstants.{ISWC, TITLE}

-- what the NWR or REV record has for its ISWC and its title
abbrev pub iswc_of : Registration → List ℕ
iswc_of registration = trimmed (field_of ISWC registration.opening)

abbrev pub title_of : Registration → List ℕ
title_of registration = trimmed (field_of TITLE registration.opening)

-- one of the registrations has this for its ISWC
abbrev pub has_iswc : List Registration → (iswc : List ℕ) → Bool
has_iswc registrations iswc = list_any (λ registration. pointwise nat_eq (iswc_of registration) iswc) registrations

-- The work of a registration: its ISWC, where that is one and no earlier row has it, and else one of the submitter's
-- own. Of the registrations with one ISWC the first has a row with it.
abbrev pub work_by : (submitter : List ℕ) → (is_first : Bool) → Registration → List ℕ
work_by submitter is_first registration =
    if is_first && is_iswc (iswc_of registration) then iswc_of registration
    else qualified submitter (number_of registration)

-- a row, by whether the registration is the first with its ISWC
abbrev pub row_by : (submitter : List ℕ) → (is_first : Bool) → Registration → List (List ℕ)
row_by submitter is_first registration =
    work_by submitter is_first registration ∷ submitter ∷ number_of registration ∷ title_of registration ∷ []

-- the row of a registration, after those of the earlier ones
abbrev pub works_row : (submitter : List ℕ) → (earlier : List Registration) → Registration → List (List ℕ)
works_row submitter earlier registration = row_by submitter (not (has_iswc earlier (iswc_of registration))) registration

-- the rows of registrations
abbrev pub rows_of_registrations : (submitter : List ℕ) → List Registration → List (List (List ℕ))
rows_of_registrations submitter registrations =
    map (λ e. works_row submitter (take e.0 registrations) e.1) (enumerate_from 0 registrations)

-- those of a file: of its registrations in force
abbrev pub works_rows : (submitter : List ℕ) → (lines : List (List ℕ)) → List (List (List ℕ))
works_rows submitter lines = rows_of_registrations submitter (registrations_in_force lines)
