-- The statement of a payee.
use Rattle.std.specs.Prelude.{ℕ, ◌≡◌, ◌∷◌, [], List, codes}
use Rattle.page_parts.specs.Bars.{Others, Row}
use Rattle.page_parts.specs.Facts.{Distribution}
use Rattle.page_parts.specs.Frame as frame
use Rattle.page_parts.specs.Pieces.{all_of, in_page}
use Rattle.payee_documents.specs.Breakdowns.{AreLands, breakdowns_text}
use Rattle.payee_documents.specs.Heads.{head_text}
use Rattle.payee_documents.specs.Notes.{notes_text}
use Rattle.payee_documents.specs.Payees.{Payee, name_shown}
use Rattle.payee_documents.specs.Uses.{uses_text}

-- the works and their uses
abbrev pub uses_section_text : (names : List (ℕ × List ℕ)) → (decimals : ℕ) → Payee → List ℕ
uses_section_text names decimals payee = all_of (
    codes "<section><h2>Works and uses</h2><p>Your portion is the amount of the use times "
    ∷ codes "your share, rounded as the notes say. Row is "
    ∷ codes "the row of the usage list. <span class=\"screen\">The same rows are in <a href=\"" ∷ in_page payee.file
    ∷ codes ".csv\">" ∷ in_page payee.file ∷ codes ".csv</a>.</span></p>\n"
    ∷ uses_text names decimals payee.portions ∷ codes "</section>\n" ∷ [])

-- the whole page, where these territories are shown by themselves, and the others come to this
abbrev pub page_text : Distribution → (names : List (ℕ × List ℕ)) → Payee → (shown : List Row) → Others → List ℕ
page_text distribution names payee shown others = all_of (
    frame.head_text (codes "Royalty statement of ") (name_shown payee) distribution.title
    ∷ head_text distribution payee
    ∷ breakdowns_text distribution.decimals shown others payee.portions
    ∷ uses_section_text names distribution.decimals payee
    ∷ notes_text distribution.decimals payee.portions
    ∷ frame.tail_text (codes "Royalty statement of ") payee.account distribution.title ∷ [])

-- The text is the statement of a payee: who it is, what is due, what that is made of by right and by territory, and
-- each work with its uses.
pub record IsStatement (distribution : Distribution) (names : List (ℕ × List ℕ)) (payee : Payee) (text : List ℕ)
    : Type 0 where
  pub shown : List Row
  pub others : Others
  pub lands : AreLands names payee.portions shown others
  pub text_is : text ≡ page_text distribution names payee shown others
