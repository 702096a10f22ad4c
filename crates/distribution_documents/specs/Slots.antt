-- Files as they are written, side by side.
use Rattle.std.specs.Prelude.{ℕ, ◌≡◌, ◌<◌, ◌∷◌, [], List, None, Ok, Err, Option, Result, Some, codes, get_or, length, ⊤}
use Rattle.distribution_documents.specs.Documents.{ArePayeeFiles, File}
use Rattle.distribution_documents.specs.Runs.{IsResidue, Run, overview_of, statements_of}
use Rattle.distribution_documents.specs.Written.{AreWritten}
use Rattle.distribution_documents.specs.declared.documents.DocumentFault.{DocumentFault}
use Rattle.distribution_documents.specs.declared.payee_files.PayeeFiles.{PayeeFiles}
use Rattle.overview_documents.specs.Page.{IsOverviewPage}
use Rattle.page_parts.specs.Facts.{Distribution}
use Rattle.residue_documents.specs.Page.{IsResiduePage, Residue}

-- the pages that are no payee's
pub record AreFirstPages (distribution : Distribution) (run : Run) (overview residue_page : List ℕ) : Type 0 where
  pub residue : Residue
  pub is_residue : IsResidue run residue
  pub overview_is : IsOverviewPage distribution (overview_of run residue) overview
  pub held : IsResiduePage distribution run.lands residue residue_page

-- they and the statements for programs were written
pub record AreThree {X : Type 0} (has : X → List ℕ → List ℕ → Type 0) (distribution : Distribution) (run : Run)
    (written : List X) : Type 0 where
  pub overview : List ℕ
  pub residue_page : List ℕ
  pub pages : AreFirstPages distribution run overview residue_page
  pub files :
      AreWritten has written
      ((codes "index.html", overview) ∷ (codes "residue.html", residue_page)
      ∷ (codes "statements.csv", statements_of run) ∷ [])

-- the files of a payee, in a list
abbrev pub files_in : {X : Type 0} → PayeeFiles X → List X
files_in files = files.page ∷ files.sheet ∷ []

-- the files of a payee were written
pub record IsWritten {X : Type 0} (has : X → List ℕ → List ℕ → Type 0) (distribution : Distribution) (run : Run)
    (account : ℕ)
    (written : PayeeFiles X) : Type 0 where
  pub files : List File
  pub are : ArePayeeFiles distribution run account files
  pub as_written : AreWritten has (files_in written) files

-- or there is a fault
abbrev pub IsSlotOf : {X : Type 0} → (has : X → List ℕ → List ℕ → Type 0) → Distribution → Run → (payees : List ℕ)
    → (place : ℕ)
    → Option (Result (PayeeFiles X) DocumentFault) → Type 0
IsSlotOf has distribution run payees place (Some (Ok written)) = IsWritten has distribution run
    (get_or payees place 0) written
IsSlotOf has distribution run payees place _ = ⊤

abbrev pub AreSlots : {X : Type 0} → (has : X → List ℕ → List ℕ → Type 0) → Distribution → Run → (payees : List ℕ)
    → List (Option (Result (PayeeFiles X) DocumentFault)) → Type 0
AreSlots has distribution run payees slots = (place : ℕ) (d : Option (Result (PayeeFiles _) DocumentFault))
    → place < length slots
    → IsSlotOf has distribution run payees place (get_or slots place d)

-- the files of all payees were written
pub record AreAllWritten {X : Type 0} (has : X → List ℕ → List ℕ → Type 0) (distribution : Distribution)
    (run : Run) (payees : List ℕ)
    (written : List (PayeeFiles X)) : Type 0 where
  pub whole : length written ≡ length payees
  pub each : (place : ℕ) (d : PayeeFiles X) → place < length written
      → IsWritten has distribution run (get_or payees place 0) (get_or written place d)
