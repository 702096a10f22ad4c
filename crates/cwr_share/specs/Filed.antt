-- Registrations as they stand in their file, whose lines count from 1.
use Rattle.std.specs.Prelude.{ℕ, ◌≡◌, ◌+◌, ◌&&◌, ◌∷◌, ◌++◌, [], All, Bool, List, count_by, false, drop, length, map, nat_eq, not, reverse, true, Option, Some, None}
use Rattle.std.specs.List.{enumerate_from, filter, find, take_while}
use Rattle.std.specs.Option.{option_map}
use Rattle.std.specs.Cmp.Lexicographic.{pointwise}
use Rattle.line_split.specs.declared.usage.Right.{Right}
use Rattle.line_split.specs.declared.usage.Right.TheVariants.{P, M, S}
use Rattle.cwr_share.specs.CwrFile.{IsShareRecord}
use Rattle.cwr_share.specs.Records.{ends_registration, is_share_line, opens_interest, opens_registration, share_fields}
use Rattle.cwr_share.specs.Registrations.{ShareLine, share_lines_of, work_of}
use Rattle.cwr_share.specs.declared.filed.Filing.{Filing}
use Rattle.cwr_share.specs.declared.filed.FiledRegistration.{FiledRegistration}

-- the share of a line for a right, also of one that excludes
abbrev pub recorded_share : Right → ShareLine → ℕ
recorded_share P line = line.performing
recorded_share M line = line.mechanical
recorded_share S line = line.synchronisation

-- the line begins a registration of the work
abbrev pub opens_work : (work : List ℕ) → List ℕ → Bool
opens_work work line = opens_registration line && pointwise nat_eq (work_of line) work

-- the number of the last line that begins a registration of a work, which is the one in force
abbrev pub last_opening : List (List ℕ) → (work : List ℕ) → Option ℕ
last_opening lines work = option_map (λ e. e.0) (find (λ e. opens_work work e.1) (reverse (enumerate_from 1 lines)))

-- those of the lines after the first of a registration that are its own
abbrev pub body_of : List (List ℕ) → List (List ℕ)
body_of lines = take_while (λ line. not (ends_registration line)) lines

-- the numbers of those lines that are share lines, where the first of the lines has this one
abbrev pub share_numbers : (first : ℕ) → List (List ℕ) → List ℕ
share_numbers first lines = map (λ e. e.0) (filter (λ e. is_share_line e.1) (enumerate_from first lines))

-- the share lines of the registration that begins in the line with a number
abbrev pub shares_from : List (List ℕ) → (number : ℕ) → List ShareLine
shares_from lines number = share_lines_of (body_of (drop number lines))

-- and their numbers
abbrev pub numbers_from : List (List ℕ) → (number : ℕ) → List ℕ
numbers_from lines number = share_numbers (number + 1) (body_of (drop number lines))

-- the registration in force of a work, where there is one
abbrev pub IsFiled : List (List ℕ) → (work : List ℕ) → Option FiledRegistration → Type 0
IsFiled lines work None = last_opening lines work ≡ None
IsFiled lines work (Some filed) =
    (last_opening lines work ≡ Some filed.line)
    × (filed.shares.items ≡ shares_from lines filed.line)
    × (filed.numbers.items ≡ numbers_from lines filed.line)

-- of the lines after the first of a registration, each share line of its own has the forms of its fields
abbrev pub AreShareRecords : List (List ℕ) → Type 0
AreShareRecords lines = (before : List (List ℕ)) (line : List ℕ) (after : List (List ℕ)) → lines ≡ before ++ line ∷ after
    → All (λ other. ends_registration other ≡ false) before → is_share_line line ≡ true
    → IsShareRecord (count_by is_share_line before) (share_fields line) line

-- a registration that was read so far
pub record IsFiledTo (body : List (List ℕ)) (filing : Filing) : Type 0 where
  pub shares : filing.filed.shares.items ≡ share_lines_of body
  pub numbers : filing.filed.numbers.items ≡ share_numbers (filing.filed.line + 1) body
  pub interest : filing.interest ≡ count_by opens_interest body
  pub number : filing.number ≡ filing.filed.line + length body

-- a registration goes on by a line more, which does not end it
abbrev pub GoesOnBy : (line : List ℕ) → (old next : Filing) → Type 0
GoesOnBy line old next =
    (ends_registration line ≡ false) × (next.filed.line ≡ old.filed.line) × ((body : List (List ℕ)) → IsFiledTo body old → IsFiledTo (body ++ line ∷ []) next)
