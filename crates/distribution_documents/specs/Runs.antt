-- What the documents of a distribution are made of.
use Rattle.std.specs.Prelude.{ℕ, ℤ, ◌≡◌, [], List, drop, filter, get_or, length, map, nat_lt}
use Rattle.std.specs.List.{enumerate_from}
use Rattle.distribution_documents.specs.Names.{width_for}
use Rattle.distribution_documents.specs.declared.documents.Documents as kept
use Rattle.document_names.specs.FirstTexts.{text_in}
use Rattle.line_split.specs.declared.reason.Reason.{Reason}
use Rattle.line_split.specs.declared.usage.Right.TheVariants.{P, M, S}
use Rattle.overview_documents.specs.Lines.{line_sum, lines_for, reversals_of}
use Rattle.overview_documents.specs.Overviews.{Overview}
use Rattle.overview_documents.specs.Payees.{PayeeLine}
use Rattle.page_text.specs.FileNames.{file_name}
use Rattle.payee_book.specs.Statement.{total_of}
use Rattle.payee_documents.specs.Payees.{Payee}
use Rattle.payee_portions.specs.Held.{held_of}
use Rattle.payee_portions.specs.Portions.{AreListed, portions_of}
use Rattle.residue_documents.specs.Page.{Residue, residue_sums}
use Rattle.run_inputs.specs.declared.inputs.Tables.{Tables}
use Rattle.settle_run.specs.Settled.{text_of_book}

-- The inputs as they were read, the statements of all accounts and the reason of each line; the titles of works, the
-- names of accounts, and those of territories.
pub record Run : Type 0 where
  pub tables : Tables
  pub statements : List (List (ℕ × ℤ))
  pub reasons : List Reason
  pub title_of : List ℕ → List ℕ
  pub names : List (List ℕ)
  pub lands : List (ℕ × List ℕ)

-- as it is kept
abbrev pub run_shown : kept.Documents → Run
run_shown documents = record {
  tables = documents.divided.now.tables;
  statements = documents.divided.now.book;
  reasons = documents.divided.now.reasons.items;
  title_of = text_in documents.titles.now;
  names = map (λ name. name.items) documents.names.now;
  lands = documents.territories.now;
}

abbrev pub statement_in : Run → (account : ℕ) → List (ℕ × ℤ)
statement_in run account = get_or run.statements account []

abbrev pub account_name : Run → (account : ℕ) → List ℕ
account_name run account = get_or run.tables.registry.accounts account []

-- the accounts of the payees that have portions
abbrev pub payees_in : Run → List ℕ
payees_in run = filter (λ account. nat_lt 0 (length (statement_in run account)))
    (map (λ e. e.0) (enumerate_from 1 (drop 1 run.statements)))

-- the name of an account's files, without their endings
abbrev pub file_of : Run → (account : ℕ) → List ℕ
file_of run account = file_name (width_for (length run.statements)) account (account_name run account)

-- a payee, and its portions in the order of its documents
pub record IsPayee (run : Run) (account : ℕ) (payee : Payee) : Type 0 where
  pub account_is : payee.account ≡ account_name run account
  pub name_is : payee.name ≡ get_or run.names account []
  pub file_is : payee.file ≡ file_of run account
  pub listed :
      AreListed
      (portions_of run.tables.territories run.tables.registry run.tables.usage run.title_of account
      (statement_in run account)) payee.portions

-- a payee in the overview
abbrev pub payee_line : Run → (account : ℕ) → PayeeLine
payee_line run account = record {
  number = account;
  account = account_name run account;
  name = get_or run.names account [];
  file = file_of run account;
  count = length (statement_in run account);
  total = total_of (statement_in run account);
}

-- the residue, the portions of each reason in the order of its document
pub record IsResidue (run : Run) (residue : Residue) : Type 0 where
  pub listed : (reason : Reason) → AreListed
      (held_of run.tables.territories run.tables.registry run.tables.usage run.title_of run.reasons reason
      (statement_in run 0)) (residue reason)

-- the overview
abbrev pub overview_of : Run → Residue → Overview
overview_of run residue = record {
  lines = line_sum run.tables.usage;
  reversals = line_sum (reversals_of run.tables.usage);
  performing = line_sum (lines_for P run.tables.usage);
  mechanical = line_sum (lines_for M run.tables.usage);
  synchronisation = line_sum (lines_for S run.tables.usage);
  payees = map (payee_line run) (payees_in run);
  residue = residue_sums residue;
}

-- the statements for programs
abbrev pub statements_of : Run → List ℕ
statements_of run = text_of_book run.tables run.statements run.reasons
