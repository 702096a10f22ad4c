-- What the text of a run says.
use Rattle.std.proofs.Common.{◌≡◌, ◌∙◌, ◌∷◌, [], ℕ, List, All, length, map, ap, sym, subst}
use Rattle.std.specs.Cmp.Lexicographic.{slice_cmp}
use Rattle.std.specs.List.Sorted.{IsStrictlySortedBy}
use Rattle.std.specs.Ordering.{nat_cmp}
use Rattle.std.proofs.lemmas.Map.Keys.{sorted_tail}
use Rattle.csv_table.specs.Table.{rows_of}
use Rattle.csv_table.specs.Written.{text_of}
use Rattle.cwr_share.specs.ClaimsOn.{claims_on}
use Rattle.cwr_share.specs.Lines.{lines_of}
use Rattle.payee_book.specs.Run.{IsBookOf}
use Rattle.payee_book.specs.Text.{rows_of_book}
use Rattle.run_inputs.specs.Inputs.{IsReading}
use Rattle.run_inputs.specs.declared.inputs.Inputs.{Inputs}
use Rattle.run_inputs.specs.declared.inputs.Tables.{Tables}
use Rattle.settle_run.specs.Settled.{AreStatementsFor, reason_of}
use Rattle.split_run.specs.Divisions.{division_by}
use Rattle.merge_statements.specs.Statements.{AreStatements, IsName, text_of_statements}
use Rattle.merge_laws.proofs.Limits.{few_lines, lines_in_limits, portion_small, said_are}
use Rattle.merge_laws.proofs.Names.{payees_named}
use Rattle.merge_laws.proofs.Said.{rows_said, said_of, sums_said}

-- what a run's text says
pub record IsSaid (tables : Tables) (names : List (List ℕ)) (text : List ℕ) : Type 0 where
  pub sound : AreStatements (said_of (division_by tables.territories tables.registry) (reason_of tables.territories tables.registry) names tables.usage)
  pub is : text ≡ text_of_statements (said_of (division_by tables.territories tables.registry) (reason_of tables.territories tables.registry) names tables.usage)

pub names_rise : (files : Inputs (List ℕ)) (tables : Tables) (is : IsReading files tables) → IsStrictlySortedBy (slice_cmp nat_cmp) is.accounts.names
names_rise files tables is =
    sorted_tail (slice_cmp nat_cmp) [] is.accounts.names (subst (IsStrictlySortedBy (slice_cmp nat_cmp)) is.accounts.accounts is.accounts.rising)

pub names_named : (files : Inputs (List ℕ)) (tables : Tables) (is : IsReading files tables) → All IsName is.accounts.names
names_named files tables is = payees_named files.payees is.rows (lines_of files.registrations) tables.registry is.payees is.registrations is.accounts

pub text_said : (files : Inputs (List ℕ)) (text : List ℕ) (tables : Tables) (is : IsReading files tables) → AreStatementsFor tables text → IsSaid tables is.accounts.names text
text_said files text tables is are =
    let lines = tables.usage in
    let division = division_by tables.territories tables.registry in
    let reason = reason_of tables.territories tables.registry in
    let names = is.accounts.names in
    let divided : IsBookOf division lines (length ([] ∷ names)) are.statements =
    subst (λ (parties : List (List ℕ)). IsBookOf division lines (length parties) are.statements) is.accounts.accounts are.divided in
    record {
      sound =
          said_are division (λ account line. portion_small line.amount (claims_on tables.territories tables.registry line) account) lines
          (lines_in_limits (rows_of files.usage) lines is.uses) reason names
          (few_lines (rows_of files.usage) lines is.uses) (names_rise files tables is) (names_named files tables is)
          (sym (sums_said division lines reason names are.statements divided) ∙ are.adds_up);
      is =
          are.rows
          ∙ ap (λ (parties : List (List ℕ)). text_of (rows_of_book are.statements lines parties (map reason lines))) is.accounts.accounts
          ∙ ap text_of (rows_said division lines reason names are.statements divided);
    }
