-- The page of the overview.
use Rattle.std.specs.Prelude.{ℕ, ◌≡◌, ◌∷◌, [], List, codes}
use Rattle.overview_documents.specs.Balance.{balance_text}
use Rattle.overview_documents.specs.Heads.{all_payees, head_text}
use Rattle.overview_documents.specs.Overviews.{Overview}
use Rattle.overview_documents.specs.Payees.{bar_row, largest_text, payees_text}
use Rattle.overview_documents.specs.declared.page.TheConstants.{RESIDUE_HEAD}
use Rattle.page_parts.specs.Bars.{Others, Row}
use Rattle.page_parts.specs.Facts.{Distribution}
use Rattle.page_parts.specs.Frame as frame
use Rattle.page_parts.specs.Pieces.{all_of}
use Rattle.page_parts.specs.Shortened.{IsShortened}
use Rattle.residue_documents.specs.Reasons.{reasons_text}
use Rattle.std.specs.Prelude.{map}

-- the page, where these payees are shown as the largest
abbrev pub page_text : Distribution → Overview → (shown : List Row) → Others → List ℕ
page_text distribution overview shown others = all_of (
    frame.head_text (codes "Overview") [] distribution.title ∷ head_text distribution overview
    ∷ balance_text distribution.decimals overview
    ∷ RESIDUE_HEAD.now ∷ reasons_text distribution.decimals (codes "residue.html") overview.residue
    ∷ codes "</section>\n<section class=\"keep\"><h2>The largest payees</h2>"
    ∷ largest_text distribution.decimals shown others (all_payees overview)
    ∷ codes "</section>\n<section><h2>All payees</h2>"
    ∷ payees_text distribution.decimals overview.payees (all_payees overview)
    ∷ codes "</section>\n" ∷ frame.tail_text (codes "Overview") [] distribution.title ∷ [])

-- The text is the overview: what came in, what became of it, the residue by reason, and all payees.
pub record IsOverviewPage (distribution : Distribution) (overview : Overview) (text : List ℕ) : Type 0 where
  pub shown : List Row
  pub others : Others
  pub largest : IsShortened 10 (map bar_row overview.payees) shown others
  pub text_is : text ≡ page_text distribution overview shown others
