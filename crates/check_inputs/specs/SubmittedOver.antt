-- The works of several submitters with most money of the lines that are claimed over, and who claims what.
use Rattle.std.specs.Prelude.{ℕ, ◌&&◌, ◌++◌, ◌∷◌, [], List, None, Option, Some, codes, decimal, filter, flat_map, map}
use Rattle.std.specs.Prelude.{nat_eq, sum_by}
use Rattle.std.specs.Cmp.Lexicographic.{pointwise}
use Rattle.std.specs.List.{enumerate_from, filter_map, find, join_by}
use Rattle.std.specs.Option.{option_map_or}
use Rattle.cwr_share.specs.ClaimsOn.{claimed_in}
use Rattle.cwr_share.specs.Registered.{Registered}
use Rattle.cwr_share.specs.Registrations.{ShareLine}
use Rattle.line_split.specs.UsageLine.{UsageLine}
use Rattle.line_split.specs.declared.reason.Reason.TheVariants.{Over}
use Rattle.linked_works.specs.Linked.{Finds, Link, linked}
use Rattle.usage_totals.specs.Totals.{is_same, reason_of}
use Rattle.usage_totals.specs.declared.total.Total.{Total}
use Rattle.check_inputs.specs.Messages.{around, total_line}

-- what each of these registrations claims on a usage line, with its submitter
abbrev pub claims_of : List (ℕ × List ℕ) → UsageLine → List (List ℕ × List ShareLine) → List (List ℕ × ℕ)
claims_of table line registrations =
    map (λ registration. (registration.0, claimed_in table line.territory line.right registration.1)) registrations

-- a submitter's claims added up, where there are any
abbrev pub together : (submitter : List ℕ) → List (List ℕ × ℕ) → Option (List ℕ × ℕ)
together submitter [] = None
together submitter (claim ∷ claims) = Some (submitter, sum_by (λ claim. claim.1) (claim ∷ claims))

-- the same of those of these claims that are the submitter's
abbrev pub claim_of_submitter : List (List ℕ × ℕ) → (submitter : List ℕ) → Option (List ℕ × ℕ)
claim_of_submitter claims submitter = together submitter (filter (λ claim. pointwise nat_eq claim.0 submitter) claims)

-- the submitters that have a registration of a line's work in force, each with what it claims on the line
abbrev pub claims_of_submitters : List (ℕ × List ℕ) → Finds → List Link → (names : List (List ℕ)) → UsageLine
    → List (List ℕ × ℕ)
claims_of_submitters table finds links names line =
    filter_map (claim_of_submitter (claims_of table line (linked finds links line.work))) names

-- a submitter and what it claims, in parts of 10000
abbrev pub claim_text : List ℕ × ℕ → List ℕ
claim_text claim = claim.0 ++ codes " claims " ++ decimal claim.1 ++ codes " of 10000"

-- the first of a work's lines that is claimed over, with its row
abbrev pub first_over : List (ℕ × List ℕ) → Registered → List UsageLine → (work : List ℕ) → Option (ℕ × UsageLine)
first_over table registered lines work =
    find (λ e. pointwise nat_eq e.1.work work && is_same Over (reason_of table registered e.1)) (enumerate_from 1 lines)

-- on the line of a row, these submitters claim so much
abbrev pub row_text : ℕ × UsageLine → List (List ℕ × ℕ) → List ℕ
row_text e claims = codes "; in row " ++ decimal e.0 ++ codes ": " ++ join_by claim_text (codes ", ") claims

-- a work whose lines are claimed over, and what each submitter claims on the first of them
abbrev pub over_line : (path : List ℕ) → List (ℕ × List ℕ) → Registered → Finds → List Link → (names : List (List ℕ))
    → List UsageLine → List ℕ × Total → List ℕ
over_line path table registered finds links names lines e =
    total_line path (around (codes "work '") e.0 (codes "' is claimed over 100.06 per cent")) e.1
    (option_map_or (λ first. row_text first (claims_of_submitters table finds links names first.1))
    (first_over table registered lines e.0) [])

-- such works, each as a line
abbrev pub over_text : (path : List ℕ) → List (ℕ × List ℕ) → Registered → Finds → List Link → (names : List (List ℕ))
    → List UsageLine → List (List ℕ × Total) → List ℕ
over_text path table registered finds links names lines over =
    flat_map (over_line path table registered finds links names lines) over
