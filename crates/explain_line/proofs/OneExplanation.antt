-- Two readings of the same inputs, and the explanations by them.
use Rattle.std.proofs.Common.{◌≡◌, ◌+◌, ◌++◌, ◌∷◌, ◌∙◌, [], ℕ, List, Option, ap, arith, codes, drop, get_or, length, map, subst, unsigned_abs}
use Rattle.std.specs.Prelude.{decimal, slice_index}
use Rattle.std.specs.List.{enumerate_from}
use Rattle.std.specs.Option.{option_map_or}
use Rattle.std.proofs.Math.Path.{fun_ext}
use Rattle.csv_table.specs.Table.{rows_of}
use Rattle.cwr_share.proofs.LawLemmas.{of_no_other_work}
use Rattle.cwr_share.proofs.OneRegistry.{one_parties, one_payees, one_works}
use Rattle.cwr_share.specs.ClaimsOn.{claims_among, claims_on, covers, decides, reason_against}
use Rattle.cwr_share.specs.CwrFile.{IsFileOf}
use Rattle.cwr_share.specs.Filed.{last_opening, numbers_from, recorded_share, shares_from}
use Rattle.cwr_share.specs.Lines.{lines_of}
use Rattle.cwr_share.specs.Payees.{payee_of}
use Rattle.cwr_share.specs.Registered.{Registered}
use Rattle.cwr_share.specs.Registrations.{ShareLine, find_work, shares_in_force}
use Rattle.csv_table.proofs.ItemWalks.{one_table}
use Rattle.line_split.specs.UsageTable.{usage_rules}
use Rattle.line_split.specs.Claims.{participants_of}
use Rattle.line_split.specs.UsageLine.{UsageLine}
use Rattle.line_split.specs.declared.reason.Reason.{Reason}
use Rattle.line_split.specs.declared.usage.Right.{Right}
use Rattle.run_inputs.proofs.OnePayees.{one_list}
use Rattle.run_inputs.specs.Inputs.{IsReading}
use Rattle.run_inputs.specs.declared.inputs.Inputs.{Inputs}
use Rattle.run_inputs.specs.declared.inputs.Tables.{Tables}
use Rattle.tis_tree.specs.TisRows.{territory_rules}
use Rattle.explain_line.specs.Explanation.{base_row, claim_row, explanation_rows, line_row, mark_text, participant_row, registration_row, yes_or_no}

-- two readings say the same
pub record AreAlike (tables others : Tables) : Type 0 where
  pub territories : tables.territories ≡ others.territories
  pub uses : tables.usage ≡ others.usage
  pub works : (work : List ℕ) → find_work work tables.registry.works ≡ find_work work others.registry.works
  pub accounts : tables.registry.accounts ≡ others.registry.accounts
  pub payees : (party : List ℕ) → payee_of tables.registry.payees party ≡ payee_of others.registry.payees party

-- those of the same inputs do
pub alike_of : (files : Inputs (List ℕ)) (tables others : Tables) → IsReading files tables → IsReading files others → AreAlike tables others
alike_of files tables others is of =
    let file = lines_of files.registrations in
    let same : IsFileOf is.rows file others.registry =
    subst (λ (rows : List (List ℕ × List ℕ)). IsFileOf rows file others.registry) (one_list files.payees of.rows is.rows of.payees is.payees) of.registrations in
    record {
      territories = one_table territory_rules (rows_of files.territories) tables.territories others.territories is.territories of.territories;
      uses = one_table usage_rules (rows_of files.usage) tables.usage others.usage is.uses of.uses;
      works = one_works is.rows (shares_in_force file) tables.registry others.registry is.registrations.registry same.registry;
      accounts = one_parties is.rows (shares_in_force file) tables.registry others.registry is.registrations.registry same.registry is.accounts of.accounts;
      payees = one_payees is.rows (shares_in_force file) tables.registry others.registry is.registrations.registry same.registry is.accounts of.accounts;
    }

-- so they have the same claims on a line, and the same reason against them
pub claims_alike : (tables others : Tables) → AreAlike tables others → (line : UsageLine)
    → (claims_on tables.territories tables.registry line ≡ claims_on tables.territories others.registry line)
    × (reason_against tables.territories tables.registry line ≡ reason_against tables.territories others.registry line)
claims_alike tables others alike line =
    of_no_other_work tables.territories tables.registry others.registry line (alike.works line.work) alike.accounts (λ found is place d within. alike.payees (get_or found place d).party)

-- What an explanation takes from a registry: the payees of parties, those by account, the claims, and the reason against them

abbrev named : List (List ℕ) → Registered
named parties = record { works = []; payees = []; accounts = parties }

abbrev share_rows : List (ℕ × List ℕ) → (pay : List ℕ → List ℕ) → (land : ℕ) → Right → (numbers : List ℕ) → (shares : List ShareLine) → List (List (List ℕ))
share_rows table pay land right numbers shares = map row (enumerate_from 0 shares)
  where
    row : ℕ × ShareLine → List (List ℕ)
    row e =
        codes "C" ∷ decimal (slice_index numbers e.0) ∷ decimal e.1.interest ∷ e.1.party ∷ pay e.1.party ∷ decimal (recorded_share right e.1) ∷ mark_text e.1.includes ∷ decimal e.1.territory
        ∷ yes_or_no (covers table land e.1) ∷ yes_or_no (decides table land e.1 (drop (e.0 + 1) shares)) ∷ []

abbrev rows_from : List (ℕ × List ℕ) → (file : List (List ℕ)) → (row : ℕ) → UsageLine → (pay : List ℕ → List ℕ) → (parties : List (List ℕ)) → Option Reason → (claims : List (ℕ × ℕ)) → List (List (List ℕ))
rows_from table file row line pay parties reason claims =
    line_row row line
    ∷ ((registration_row (last_opening file line.work) reason
    ∷ option_map_or (λ (number : ℕ). share_rows table pay line.territory line.right (numbers_from file number) (shares_from file number)
    ++ map (claim_row (named parties)) (claims_among table line.territory line.right pay (shares_from file number) (drop 1 parties))) (last_opening file line.work) [])
    ++ (base_row (unsigned_abs line.amount) claims ∷ map (participant_row (named parties) line.amount claims) (enumerate_from 0 (participants_of claims))))

-- so two readings explain a line alike
pub rows_alike : (tables others : Tables) → AreAlike tables others → (file : List (List ℕ)) (row : ℕ) (line : UsageLine)
    → explanation_rows tables file row line ≡ explanation_rows others file row line
rows_alike tables others alike file row line =
    let table = tables.territories in
    let registered = tables.registry in
    let also = others.registry in
    let claims = claims_alike tables others alike line in
    ap (λ (pay : List ℕ → List ℕ). rows_from table file row line pay registered.accounts (reason_against table registered line) (claims_on table registered line)) (fun_ext alike.payees)
    ∙ (ap (λ (parties : List (List ℕ)). rows_from table file row line (payee_of also.payees) parties (reason_against table registered line) (claims_on table registered line)) alike.accounts
    ∙ (ap (λ (reason : Option Reason). rows_from table file row line (payee_of also.payees) also.accounts reason (claims_on table registered line)) claims.1
    ∙ (ap (rows_from table file row line (payee_of also.payees) also.accounts (reason_against table also line)) claims.0
    ∙ ap (λ (t : List (ℕ × List ℕ)). rows_from t file row line (payee_of also.payees) also.accounts (reason_against t also line) (claims_on t also line)) alike.territories)))

-- a row of a list is one line
pub one_line : (before earlier : List UsageLine) (line also : UsageLine) (after later : List UsageLine) → before ++ line ∷ after ≡ earlier ++ also ∷ later → length before ≡ length earlier → line ≡ also
one_line [] [] line also after later same places = cc
one_line [] (other ∷ earlier) line also after later same places = absurd (omega (arith, places))
one_line (other ∷ before) [] line also after later same places = absurd (omega (arith, places))
one_line (one ∷ before) (other ∷ earlier) line also after later same places =
    let rest : before ++ line ∷ after ≡ earlier ++ also ∷ later = cc in
    one_line before earlier line also after later rest (omega (arith, places))
