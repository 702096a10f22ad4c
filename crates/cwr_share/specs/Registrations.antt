-- Registrations of works, and their share lines, over the whole list of lines.
use Rattle.std.specs.Prelude.{ℕ, ◌==◌, ◌∷◌, Bool, List, [], count_by, not, nat_eq, reverse, slice_index, take, if◌then◌else◌, Option, Some, None}
use Rattle.std.specs.List.{enumerate_from, filter_map, find, take_while}
use Rattle.std.specs.Option.{option_map}
use Rattle.std.specs.Cmp.Lexicographic.{pointwise}
use Rattle.csv_table.specs.Forms.{number_of}
use Rattle.cwr_share.specs.Fields.{field_of, share_of, trimmed}
use Rattle.cwr_share.specs.Records.{ends_registration, is_share_line, opens_interest, opens_registration, share_fields}
use Rattle.cwr_share.specs.declared.fields.TheConstants.{WORK}
use Rattle.cwr_share.specs.declared.fields.ShareFields.{ShareFields}

-- A share line: what a party collects in a territory, in hundredths of a per cent, or that it collects nothing there.
pub record ShareLine : Type 0 where
  pub interest : ℕ
  pub party : List ℕ
  pub performing : ℕ
  pub mechanical : ℕ
  pub synchronisation : ℕ
  pub includes : Bool
  pub territory : ℕ

-- the share line that a line is, in an interest of its registration
abbrev pub share_line_of : (interest : ℕ) → ShareFields → List ℕ → ShareLine
share_line_of interest fields line = record {
  interest = interest;
  party = trimmed (field_of fields.party line);
  performing = share_of (field_of fields.performing line);
  mechanical = share_of (field_of fields.mechanical line);
  synchronisation = share_of (field_of fields.synchronisation line);
  includes = not (slice_index (field_of fields.mark line) 0 == 69);
  territory = number_of (field_of fields.territory line);
}

-- the share lines among the lines of a registration, each with the number of interests that begin before it
abbrev pub share_lines_of : List (List ℕ) → List ShareLine
share_lines_of lines = filter_map
    (λ e. if is_share_line e.1 then Some (share_line_of (count_by opens_interest (take e.0 lines)) (share_fields e.1) e.1) else None)
    (enumerate_from 0 lines)

-- the submitter work number of a registration's first line
abbrev pub work_of : List ℕ → List ℕ
work_of line = trimmed (field_of WORK line)

-- the registrations of a file in its order: each work, with the lines up to the one that ends its registration
unfoldable pub registrations_of : List (List ℕ) → List (List ℕ × List (List ℕ))
registrations_of [] = []
registrations_of (line ∷ later) =
    if opens_registration line then (work_of line, take_while (λ other. not (ends_registration other)) later) ∷ registrations_of later
    else registrations_of later

-- what a list of works has for a work, where it has the work
abbrev pub find_work : {X : Type 0} → List ℕ → List (List ℕ × X) → Option X
find_work work works = option_map (λ entry. entry.1) (find (λ entry. pointwise nat_eq entry.0 work) works)

-- the share lines of a work: those of the last of its registrations, which is the one in force
abbrev pub shares_in_force : List (List ℕ) → List ℕ → Option (List ShareLine)
shares_in_force lines work = option_map share_lines_of (find_work work (reverse (registrations_of lines)))
