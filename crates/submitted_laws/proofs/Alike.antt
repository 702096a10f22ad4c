-- Statements go by what the tables of a run answer.
use Rattle.std.proofs.Common.{ℤ, ◌≡◌, ◌∙◌, ℕ, List, Option, length, map, ap, sym, subst, refl}
use Rattle.std.specs.Prelude.{unwrap_or}
use Rattle.std.proofs.Math.Path.{fun_ext}
use Rattle.csv_table.proofs.ItemWalks.{one_table}
use Rattle.csv_table.specs.Table.{rows_of}
use Rattle.csv_table.specs.Written.{text_of}
use Rattle.tis_tree.specs.TisRows.{territory_rules}
use Rattle.tis_tree.specs.TisRows as tis
use Rattle.line_split.specs.Signs.{int_sum_by, signed_portions_of}
use Rattle.line_split.specs.UsageLine.{UsageLine}
use Rattle.line_split.specs.UsageTable.{usage_rules}
use Rattle.line_split.specs.UsageTable as usage
use Rattle.line_split.specs.declared.reason.Reason.{Reason}
use Rattle.line_split.specs.declared.reason.Reason.TheVariants.{Open}
use Rattle.cwr_share.specs.ClaimsOn.{claims_on, reason_against}
use Rattle.payee_book.specs.Run.{IsBookOf}
use Rattle.payee_book.specs.Text.{rows_of_book}
use Rattle.split_run.specs.Divisions.{division_by}
use Rattle.run_inputs.specs.declared.inputs.Tables.{Tables}
use Rattle.settle_run.specs.Settled.{AreStatementsFor, reason_of}
use Rattle.settle_run.proofs.OneText.{one_text}
use Rattle.submitted_laws.specs.Alike.{AnswerAlike}

module _ (tables other : Tables) (alike : AnswerAlike tables other) where
  -- they divide alike, and have the same reasons
  divides_alike : division_by tables.territories tables.registry ≡ division_by other.territories other.registry
  divides_alike = fun_ext (λ (line : UsageLine). ap (signed_portions_of line.amount) (alike.claims line))

  gives_reasons_alike : reason_of tables.territories tables.registry ≡ reason_of other.territories other.registry
  gives_reasons_alike = fun_ext (λ (line : UsageLine). ap (λ (reason : Option Reason). unwrap_or reason Open) (alike.reasons line))

  -- so the statements of the one are those of the other
  pub statements_alike : (text : List ℕ) → AreStatementsFor tables text → AreStatementsFor other text
  statements_alike text is = record {
    statements = is.statements;
    divided =
        subst (λ (division : UsageLine → List (ℕ × ℤ)). IsBookOf division other.usage (length other.registry.accounts) is.statements) divides_alike
        (subst (λ (lines : List UsageLine). IsBookOf (division_by tables.territories tables.registry) lines (length other.registry.accounts) is.statements) alike.usage
        (subst (λ (parties : List (List ℕ)). IsBookOf (division_by tables.territories tables.registry) tables.usage (length parties) is.statements) alike.accounts is.divided));
    adds_up = is.adds_up ∙ ap (λ (lines : List UsageLine). int_sum_by (λ line. line.amount) lines) alike.usage;
    rows =
        is.rows
        ∙ ap (λ (lines : List UsageLine). text_of (rows_of_book is.statements lines tables.registry.accounts (map (reason_of tables.territories tables.registry) lines))) alike.usage
        ∙ ap (λ (parties : List (List ℕ)). text_of (rows_of_book is.statements other.usage parties (map (reason_of tables.territories tables.registry) other.usage))) alike.accounts
        ∙ ap (λ (reasons : UsageLine → Reason). text_of (rows_of_book is.statements other.usage other.registry.accounts (map reasons other.usage))) gives_reasons_alike;
  }

-- the other way round too
pub alike_back : (tables other : Tables) → AnswerAlike tables other → AnswerAlike other tables
alike_back tables other alike = record {
  territories = sym alike.territories;
  usage = sym alike.usage;
  accounts = sym alike.accounts;
  claims = λ line. sym (alike.claims line);
  reasons = λ line. sym (alike.reasons line);
}

-- and there is one text of both
one_text_of : (tables : Tables) (text other : List ℕ) → AreStatementsFor tables text → AreStatementsFor tables other → text ≡ other
one_text_of tables text other is of =
    one_text tables tables text other (refl, record { works = λ work. refl; accounts = refl; payees = λ party. refl }) refl is of

pub one_text_alike : (tables other : Tables) (text theirs : List ℕ) → AnswerAlike tables other → AreStatementsFor tables text → AreStatementsFor other theirs → text ≡ theirs
one_text_alike tables other text theirs alike is of = one_text_of other text theirs (statements_alike tables other alike text is) of

-- Tables of the same territories and usage lines answer alike where their registries do.
pub answer_alike : (tables other : Tables) → tables.territories ≡ other.territories → tables.usage ≡ other.usage → tables.registry.accounts ≡ other.registry.accounts
    → ((table : List (ℕ × List ℕ)) (line : UsageLine)
    → (claims_on table tables.registry line ≡ claims_on table other.registry line) × (reason_against table tables.registry line ≡ reason_against table other.registry line))
    → AnswerAlike tables other
answer_alike tables other territories lines accounts answers = record {
  territories = territories;
  usage = lines;
  accounts = accounts;
  claims = λ line.
      (answers tables.territories line).0 ∙ ap (λ (table : List (ℕ × List ℕ)). claims_on table other.registry line) territories;
  reasons = λ line.
      (answers tables.territories line).1 ∙ ap (λ (table : List (ℕ × List ℕ)). reason_against table other.registry line) territories;
}

-- the same bytes are the same territories, and the same usage lines
pub one_territories : (bytes other : List ℕ) (rows others : List (ℕ × List ℕ)) → bytes ≡ other → tis.IsTableOf (rows_of bytes) rows → tis.IsTableOf (rows_of other) others → rows ≡ others
one_territories bytes other rows others same is of =
    one_table territory_rules (rows_of other) rows others (subst (λ (text : List ℕ). tis.IsTableOf (rows_of text) rows) same is) of

pub one_usage : (bytes other : List ℕ) (lines others : List UsageLine) → bytes ≡ other → usage.IsTableOf (rows_of bytes) lines → usage.IsTableOf (rows_of other) others → lines ≡ others
one_usage bytes other lines others same is of =
    one_table usage_rules (rows_of other) lines others (subst (λ (text : List ℕ). usage.IsTableOf (rows_of text) lines) same is) of
