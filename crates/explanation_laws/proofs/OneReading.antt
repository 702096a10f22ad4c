-- The inputs of a run over the files of several submitters are read as one, and a line is explained alike by two readings.
use Rattle.std.proofs.Common.{◌≡◌, ◌∙◌, ◌++◌, ◌∷◌, [], ℕ, List, Option, ap, arith, codes, drop, flat_map, map, sym}
use Rattle.std.specs.Prelude.{unwrap_or, zip}
use Rattle.std.specs.List.{enumerate_from}
use Rattle.std.specs.Option.{option_map_or}
use Rattle.std.proofs.Math.Path.{fun_ext}
use Rattle.csv_table.proofs.ItemWalks.{one_table}
use Rattle.csv_table.specs.Table.{rows_of}
use Rattle.csv_table.specs.Written.{text_of}
use Rattle.cwr_share.specs.ClaimsOn.{claims_among, claims_on, reason_against}
use Rattle.cwr_share.specs.Filed.{last_opening, numbers_from, shares_from}
use Rattle.cwr_share.specs.Joined.{qualified}
use Rattle.cwr_share.specs.Lines.{lines_of}
use Rattle.cwr_share.specs.Payees.{payee_of}
use Rattle.cwr_share.specs.Registered.{Registered}
use Rattle.cwr_share.specs.Registrations.{ShareLine}
use Rattle.explain_line.proofs.OneExplanation.{AreAlike, claims_alike, one_line}
use Rattle.explain_line.specs.Explanation.{claim_row, division_rows, line_row, share_fields, shown_of}
use Rattle.explain_line.specs.Submitted.{IsSubmittedExplanationOf, file_by, link_row, links_of, reason_row, submitted_rows}
use Rattle.line_split.specs.UsageLine.{UsageLine}
use Rattle.line_split.specs.UsageTable.{usage_rules}
use Rattle.line_split.specs.declared.reason.Reason.{Reason}
use Rattle.line_split.specs.declared.usage.Right.{Right}
use Rattle.linked_works.specs.Linked.{Link, finds_in, shares_linked}
use Rattle.linked_works.specs.WorksTable.{works_rules}
use Rattle.run_inputs.specs.declared.inputs.Tables.{Tables}
use Rattle.submitted_inputs.specs.Submitted.{IsReading}
use Rattle.submitted_inputs.specs.declared.inputs.SubmittedTables.{SubmittedTables}
use Rattle.submitted_laws.specs.Alike.{HoldsOneText}
use Rattle.submitted_laws.proofs.OneReading.{read_alike, same_files}
use Rattle.tis_tree.specs.TisRows.{territory_rules}

module _ (names : List (List ℕ)) (holds : ℕ → List ℕ → Type 0) (inputs : SubmittedTables (List ℕ)) (one : HoldsOneText holds) where
  -- two readings say the same
  pub alike_of : (tables others : Tables) → IsReading names holds inputs tables → IsReading names holds inputs others → AreAlike tables others
  alike_of tables others is of =
      let alike = read_alike names holds inputs one tables others is of in
      record {
        territories = one_table territory_rules (rows_of inputs.territories) tables.territories others.territories is.territories of.territories;
        uses = one_table usage_rules (rows_of inputs.usage) tables.usage others.usage is.uses of.uses;
        works = alike.1.works;
        accounts = alike.1.accounts;
        payees = alike.1.payees;
      }

-- What an explanation takes from a registry: the payees of parties, those by account, the claims, and the reason against them

abbrev named : List (List ℕ) → Registered
named accounts = record { works = []; payees = []; accounts = accounts }

abbrev rows_of_shares : List (ℕ × List ℕ) → (pay : List ℕ → List ℕ) → (land : ℕ) → Right → (submitter : List ℕ) → (numbers : List ℕ) → (shares : List ShareLine) → List (List (List ℕ))
rows_of_shares table pay land right submitter numbers shares = map row (enumerate_from 0 shares)
  where
    row : ℕ × ShareLine → List (List ℕ)
    row e = codes "C" ∷ submitter ∷ share_fields (shown_of table land right (pay (qualified submitter e.1.party)) numbers shares e)

abbrev rows_of_link : List (ℕ × List ℕ) → (pay : List ℕ → List ℕ) → (land : ℕ) → Right → List (List ℕ × List (List ℕ)) → Link → List (List (List ℕ))
rows_of_link table pay land right files link =
    let file = file_by files link.submitter in
    link_row link (last_opening file link.number)
    ∷ option_map_or (λ (number : ℕ). rows_of_shares table pay land right link.submitter (numbers_from file number) (shares_from file number)) (last_opening file link.number) []

abbrev rows_from : List (ℕ × List ℕ) → List (List ℕ × List (List ℕ)) → List Link → (row : ℕ) → UsageLine → (pay : List ℕ → List ℕ) → (accounts : List (List ℕ)) → Option Reason → (claims : List (ℕ × ℕ)) → List (List (List ℕ))
rows_from table files links row line pay accounts reason claims =
    line_row row line
    ∷ (reason_row reason
    ∷ (flat_map (rows_of_link table pay line.territory line.right files) (links_of links line.work)
    ++ (map (claim_row (named accounts)) (claims_among table line.territory line.right pay (unwrap_or (shares_linked (finds_in files) links line.work) []) (drop 1 accounts))
    ++ division_rows (named accounts) line.amount claims)))

-- so two readings explain a line alike
rows_alike : (tables others : Tables) → AreAlike tables others → (files : List (List ℕ × List (List ℕ))) (links : List Link) (row : ℕ) (line : UsageLine)
    → submitted_rows tables.territories tables.registry files links row line ≡ submitted_rows others.territories others.registry files links row line
rows_alike tables others alike files links row line =
    let table = tables.territories in
    let registered = tables.registry in
    let also = others.registry in
    let claims = claims_alike tables others alike line in
    ap (λ (pay : List ℕ → List ℕ). rows_from table files links row line pay registered.accounts (reason_against table registered line) (claims_on table registered line)) (fun_ext alike.payees)
    ∙ (ap (λ (accounts : List (List ℕ)). rows_from table files links row line (payee_of also.payees) accounts (reason_against table registered line) (claims_on table registered line)) alike.accounts
    ∙ (ap (λ (reason : Option Reason). rows_from table files links row line (payee_of also.payees) also.accounts reason (claims_on table registered line)) claims.1
    ∙ (ap (rows_from table files links row line (payee_of also.payees) also.accounts (reason_against table also line)) claims.0
    ∙ ap (λ (t : List (ℕ × List ℕ)). rows_from t files links row line (payee_of also.payees) also.accounts (reason_against t also line) (claims_on t also line)) alike.territories)))

module _ (names : List (List ℕ)) (holds : ℕ → List ℕ → Type 0) (inputs : SubmittedTables (List ℕ)) (one : HoldsOneText holds) where
  pub one_explanation : (row : ℕ) (text other : List ℕ) → IsSubmittedExplanationOf names holds inputs row text → IsSubmittedExplanationOf names holds inputs row other → text ≡ other
  one_explanation row text other is of =
      let alike : AreAlike is.tables of.tables = alike_of names holds inputs one is.tables of.tables is.read of.read in
      let line : is.line ≡ of.line =
      one_line is.at.before of.at.before is.line of.line is.at.after of.at.after (sym is.at.split ∙ (alike.uses ∙ of.at.split)) (omega (arith, is.at.place, of.at.place)) in
      let files : is.read.files ≡ of.read.files = same_files holds _ is.read.files of.read.files one is.read.files_are of.read.files_are in
      let links : is.read.links ≡ of.read.links = one_table (works_rules names) (rows_of inputs.works) is.read.links of.read.links is.read.works_are of.read.works_are in
      is.rows
      ∙ (ap (λ (l : UsageLine). text_of (submitted_rows is.tables.territories is.tables.registry (zip names (map lines_of is.read.files)) is.read.links row l)) line
      ∙ (ap (λ (held : List (List ℕ)). text_of (submitted_rows is.tables.territories is.tables.registry (zip names (map lines_of held)) is.read.links row of.line)) files
      ∙ (ap (λ (l : List Link). text_of (submitted_rows is.tables.territories is.tables.registry (zip names (map lines_of of.read.files)) l row of.line)) links
      ∙ (ap text_of (rows_alike is.tables of.tables alike (zip names (map lines_of of.read.files)) of.read.links row of.line)
      ∙ sym of.rows))))
