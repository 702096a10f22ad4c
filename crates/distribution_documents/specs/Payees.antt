-- What the files of a payee have in them.
use Rattle.std.specs.Prelude.{ℕ, ◌≡◌, List}
use Rattle.csv_table.specs.Written.{text_of}
use Rattle.distribution_documents.specs.Runs.{IsPayee, Run}
use Rattle.page_parts.specs.Facts.{Distribution}
use Rattle.payee_documents.specs.Payees.{Payee}
use Rattle.payee_documents.specs.Sheet.{sheet_rows}
use Rattle.payee_documents.specs.Statement.{IsStatement}

-- the statement, and the sheet of the same portions
pub record AreTextsOf (distribution : Distribution) (run : Run) (account : ℕ) (page sheet : List ℕ) : Type 0 where
  pub payee : Payee
  pub is_payee : IsPayee run account payee
  pub statement : IsStatement distribution run.lands payee page
  pub sheet_is : sheet ≡ text_of (sheet_rows payee.portions)
