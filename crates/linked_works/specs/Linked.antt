-- The works of several submitters: which registrations are of which work, and what they come to.
use Rattle.std.specs.Prelude.{ℕ, ◌∷◌, [], List, None, Option, Some, if◌then◌else◌, nat_eq, option_and_then}
use Rattle.std.specs.Cmp.Lexicographic.{pointwise}
use Rattle.std.specs.List.{filter_map}
use Rattle.std.specs.Option.{option_map}
use Rattle.cwr_share.specs.Joined.{joined}
use Rattle.cwr_share.specs.Registrations.{ShareLine, find_work, shares_in_force}

-- A row of the table of works: the registration that a submitter has under a number is one of the work.
pub record Link : Type 0 where
  pub work : List ℕ
  pub submitter : List ℕ
  pub number : List ℕ

-- what finds the share lines of a submitter's registration in force, where there is one
abbrev pub Finds : Type 0
Finds = (submitter number : List ℕ) → Option (List ShareLine)

-- in files, each with its submitter and its lines
abbrev pub finds_in : List (List ℕ × List (List ℕ)) → Finds
finds_in files submitter number =
    option_and_then (λ lines. shares_in_force lines number) (find_work submitter files)

-- among works in force, by submitter
abbrev pub finds_among : List (List ℕ × List (List ℕ × List ShareLine)) → Finds
finds_among files submitter number = option_and_then (λ works. find_work number works) (find_work submitter files)

-- a registration of the work that a row links, with its submitter
abbrev pub registration_by : Finds → (work : List ℕ) → Link → Option (List ℕ × List ShareLine)
registration_by finds work link =
    if pointwise nat_eq link.work work
    then option_map (λ shares. (link.submitter, shares)) (finds link.submitter link.number) else None

-- the registrations in force of a work, in the order of the rows
abbrev pub linked : Finds → List Link → (work : List ℕ) → List (List ℕ × List ShareLine)
linked finds links work = filter_map (registration_by finds work) links

-- registrations as one list of share lines, where there is one
abbrev pub joined_if_any : List (List ℕ × List ShareLine) → Option (List ShareLine)
joined_if_any [] = None
joined_if_any (registration ∷ registrations) = Some (joined (registration ∷ registrations))

-- the share lines of a work, where one of its registrations is in force
abbrev pub shares_linked : Finds → List Link → (work : List ℕ) → Option (List ShareLine)
shares_linked finds links work = joined_if_any (linked finds links work)
