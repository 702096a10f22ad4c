-- The explanation of a usage line in a run over the files of several submitters.
use Rattle.std.specs.Prelude.{ℕ, ◌≡◌, ◌<◌, ◌⊎◌, ◌++◌, ◌∷◌, [], List, Option, codes, decimal, filter, flat_map, length, map, nat_eq, unwrap_or, zip}
use Rattle.std.specs.Cmp.Lexicographic.{pointwise}
use Rattle.std.specs.List.{enumerate_from}
use Rattle.std.specs.Option.{option_map_or}
use Rattle.csv_table.specs.Written.{text_of}
use Rattle.cwr_share.specs.ClaimsOn.{claims_by, claims_on, reason_against}
use Rattle.cwr_share.specs.Filed.{last_opening, numbers_from, shares_from}
use Rattle.cwr_share.specs.Joined.{qualified}
use Rattle.cwr_share.specs.Lines.{lines_of}
use Rattle.cwr_share.specs.Payees.{payee_of}
use Rattle.cwr_share.specs.Registered.{Registered}
use Rattle.cwr_share.specs.Registrations.{ShareLine, find_work}
use Rattle.line_split.specs.ReasonTexts.{reason_text}
use Rattle.line_split.specs.UsageLine.{UsageLine}
use Rattle.line_split.specs.declared.reason.Reason.{Reason}
use Rattle.line_split.specs.declared.usage.Right.{Right}
use Rattle.linked_works.specs.Linked.{Link, finds_in, shares_linked}
use Rattle.run_inputs.specs.declared.inputs.Tables.{Tables}
use Rattle.submitted_inputs.specs.Submitted.{IsReading}
use Rattle.submitted_inputs.specs.declared.inputs.SubmittedTables.{SubmittedTables}
use Rattle.explain_line.specs.Explanation.{IsRow, claim_row, division_rows, line_row, share_fields, shown_of}

-- why no claim counts
abbrev pub reason_row : Option Reason → List (List ℕ)
reason_row reason = codes "R" ∷ option_map_or reason_text reason [] ∷ []

-- a row of the table of works, with the number of the line in which the registration in force begins, where there is one
abbrev pub link_row : Link → (opening : Option ℕ) → List (List ℕ)
link_row link opening = codes "W" ∷ link.submitter ∷ link.number ∷ option_map_or decimal opening [] ∷ []

-- a share line of a submitter's registration, by its place
abbrev pub submitted_share_row : List (ℕ × List ℕ) → Registered → (land : ℕ) → Right → (submitter : List ℕ) → (numbers : List ℕ) → (shares : List ShareLine) → ℕ × ShareLine → List (List ℕ)
submitted_share_row table registered land right submitter numbers shares e =
    codes "C" ∷ submitter ∷ share_fields (shown_of table land right (payee_of registered.payees (qualified submitter e.1.party)) numbers shares e)

-- what a registration comes to that begins in the line with this number
abbrev pub share_rows : List (ℕ × List ℕ) → Registered → (land : ℕ) → Right → (submitter : List ℕ) → (file : List (List ℕ)) → (number : ℕ) → List (List (List ℕ))
share_rows table registered land right submitter file number =
    map (submitted_share_row table registered land right submitter (numbers_from file number) (shares_from file number)) (enumerate_from 0 (shares_from file number))

-- the lines of a submitter's file
abbrev pub file_by : List (List ℕ × List (List ℕ)) → (submitter : List ℕ) → List (List ℕ)
file_by files submitter = unwrap_or (find_work submitter files) []

-- a row of the table of works, and the share lines of its registration in force, where there is one
abbrev pub link_rows : List (ℕ × List ℕ) → Registered → (land : ℕ) → Right → List (List ℕ × List (List ℕ)) → Link → List (List (List ℕ))
link_rows table registered land right files link =
    link_row link (last_opening (file_by files link.submitter) link.number)
    ∷ option_map_or (share_rows table registered land right link.submitter (file_by files link.submitter)) (last_opening (file_by files link.submitter) link.number) []

-- the rows of a work in the table of works
abbrev pub links_of : List Link → (work : List ℕ) → List Link
links_of links work = filter (λ link. pointwise nat_eq link.work work) links

-- what accounts claim by all registrations in force of a work together
abbrev pub claim_rows : List (ℕ × List ℕ) → Registered → List (List ℕ × List (List ℕ)) → List Link → UsageLine → List (List (List ℕ))
claim_rows table registered files links line =
    map (claim_row registered) (claims_by table registered line (unwrap_or (shares_linked (finds_in files) links line.work) []))

-- The explanation of the line in a row, by the territories, the registrations, the files of the submitters and the table of works.
abbrev pub submitted_rows : List (ℕ × List ℕ) → Registered → List (List ℕ × List (List ℕ)) → List Link → (row : ℕ) → UsageLine → List (List (List ℕ))
submitted_rows table registered files links row line =
    line_row row line
    ∷ (reason_row (reason_against table registered line)
    ∷ (flat_map (link_rows table registered line.territory line.right files) (links_of links line.work)
    ++ (claim_rows table registered files links line
    ++ division_rows registered line.amount (claims_on table registered line))))

-- The text explains the line in a row of the usage list of these tables, where submitters of these names have these files.
pub record IsSubmittedExplanationOf (names : List (List ℕ)) (holds : ℕ → List ℕ → Type 0) (inputs : SubmittedTables (List ℕ)) (row : ℕ) (text : List ℕ) : Type 0 where
  pub tables : Tables
  pub read : IsReading names holds inputs tables
  pub line : UsageLine
  pub at : IsRow tables.usage row line
  pub rows : text ≡ text_of (submitted_rows tables.territories tables.registry (zip names (map lines_of read.files)) read.links row line)

-- the inputs are sound, and the usage list has no such row
pub record SubmittedHaveNoRow (names : List (List ℕ)) (holds : ℕ → List ℕ → Type 0) (inputs : SubmittedTables (List ℕ)) (row : ℕ) : Type 0 where
  pub tables : Tables
  pub read : IsReading names holds inputs tables
  pub beyond : (row ≡ 0) ⊎ (length tables.usage < row)
