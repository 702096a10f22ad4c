-- All documents of a distribution: files, each by its name and its bytes.
use Rattle.std.specs.Prelude.{ℕ, ◌≡◌, ◌<◌, ◌++◌, ◌∷◌, [], List, codes, flat_map, get_or, length}
use Rattle.csv_table.specs.Written.{text_of}
use Rattle.distribution_documents.specs.Names.{in_folder}
use Rattle.distribution_documents.specs.Runs.{IsPayee, IsResidue, Run, overview_of, payees_in, statements_of}
use Rattle.overview_documents.specs.Page.{IsOverviewPage}
use Rattle.page_parts.specs.Facts.{Distribution}
use Rattle.payee_documents.specs.Payees.{Payee}
use Rattle.payee_documents.specs.Sheet.{sheet_rows}
use Rattle.payee_documents.specs.Statement.{IsStatement}
use Rattle.residue_documents.specs.Page.{IsResiduePage, Residue}

-- a name and bytes
abbrev pub File : Type 0
File = List ℕ × List ℕ

-- The files of a payee: its statement, and the sheet of its portions.
pub record ArePayeeFiles (distribution : Distribution) (run : Run) (account : ℕ) (files : List File) : Type 0 where
  pub payee : Payee
  pub is_payee : IsPayee run account payee
  pub page : List ℕ
  pub statement : IsStatement distribution run.lands payee page
  pub files_are :
      files ≡ (in_folder payee.file (codes ".html"), page)
      ∷ (in_folder payee.file (codes ".csv"), text_of (sheet_rows payee.portions)) ∷ []

-- The files of all payees that have portions, in the order of their accounts.
pub record AreAllPayees (distribution : Distribution) (run : Run) (files : List (List File)) : Type 0 where
  pub whole : length files ≡ length (payees_in run)
  pub each : (k : ℕ) → k < length files → ArePayeeFiles distribution run (get_or (payees_in run) k 0)
      (get_or files k [])

-- All documents: the overview, the page of the residue, the statements for programs, and the files of each payee that
-- has portions.
pub record AreDocuments (distribution : Distribution) (run : Run) (files : List File) : Type 0 where
  pub residue : Residue
  pub is_residue : IsResidue run residue
  pub overview_page : List ℕ
  pub overview : IsOverviewPage distribution (overview_of run residue) overview_page
  pub residue_page : List ℕ
  pub held : IsResiduePage distribution run.lands residue residue_page
  pub payee_files : List (List File)
  pub payees : AreAllPayees distribution run payee_files
  pub files_are :
      files ≡ (codes "index.html", overview_page) ∷ (codes "residue.html", residue_page)
      ∷ (codes "statements.csv", statements_of run) ∷ flat_map (λ all. all) payee_files
