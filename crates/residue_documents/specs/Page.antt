-- The page of the residue.
use Rattle.std.specs.Prelude.{ℕ, ◌≡◌, ◌≤◌, ◌==◌, ◌++◌, ◌∷◌, [], All, List, codes, if◌then◌else◌, length, unsigned_abs}
use Rattle.line_split.specs.ReasonTexts.{reason_text}
use Rattle.line_split.specs.declared.TheConstants.{MOST_AMOUNT, MOST_LINES}
use Rattle.line_split.specs.declared.reason.Reason.{Reason}
use Rattle.line_split.specs.declared.reason.Reason.TheVariants.{Work, Land, Over, Open}
use Rattle.page_parts.specs.Facts.{Distribution, fact_text, figure_text}
use Rattle.page_parts.specs.Frame as frame
use Rattle.page_parts.specs.Pieces.{all_of}
use Rattle.page_text.specs.Figures.{count_text}
use Rattle.payee_portions.specs.Held.{AreByMoney}
use Rattle.payee_portions.specs.Portions.{Portion}
use Rattle.payee_portions.specs.Sections.{sections_of}
use Rattle.payee_portions.specs.Shown.{portions_shown}
use Rattle.payee_portions.specs.declared.portion.Portion as kept_portion
use Rattle.residue_documents.specs.Reasons.{ReasonSums, amount_in, lines_in, meaning_of, reason_name, reasons_text}
use Rattle.residue_documents.specs.Reasons.{todo_of}
use Rattle.residue_documents.specs.Sums.{held_sum}
use Rattle.residue_documents.specs.Tables.{table_text}
use Rattle.residue_documents.specs.declared.page.Residue as kept
use Rattle.residue_documents.specs.declared.page.TheConstants.{LATER, PAGE_HEAD}

-- the portions of the residue, by reason
abbrev pub Residue : Type 0
Residue = Reason → List Portion

-- as they are kept
abbrev pub residue_shown : kept.Residue → Residue
residue_shown residue Work = portions_shown residue.work.now
residue_shown residue Land = portions_shown residue.land.now
residue_shown residue Over = portions_shown residue.over.now
residue_shown residue Open = portions_shown residue.open.now

-- portions that can be added
pub record AreFewPortions (portions : List kept_portion.Portion) : Type 0 where
  pub few : length portions ≤ MOST_LINES
  pub small : All (λ portion. unsigned_abs portion.amount ≤ MOST_AMOUNT) portions

pub record AreFew (residue : kept.Residue) : Type 0 where
  pub work : AreFewPortions residue.work.now
  pub land : AreFewPortions residue.land.now
  pub over : AreFewPortions residue.over.now
  pub open_share : AreFewPortions residue.open.now

-- what is held back for each reason
abbrev pub residue_sums : Residue → ReasonSums
residue_sums residue = record {
  work = held_sum (residue Work);
  land = held_sum (residue Land);
  over = held_sum (residue Over);
  open_share = held_sum (residue Open);
}

-- the head of the page, and what is held back for each reason
abbrev pub page_head_text : Distribution → Residue → List ℕ
page_head_text distribution residue = all_of (
    PAGE_HEAD.now ∷ fact_text (codes "Distribution") distribution.title
    ∷ fact_text (codes "Registrations") distribution.sources ∷ codes "</dl>\n<div class=\"due\">"
    ∷ figure_text distribution.decimals (codes "Held back") (amount_in (residue_sums residue)) distribution.currency
    ∷ codes "lines: " ∷ count_text (lines_in (residue_sums residue)) ∷ codes "</i></p>"
    ∷ codes "</div></header>\n<section class=\"keep\"><h2>By reason</h2>\n"
    ∷ reasons_text distribution.decimals [] (residue_sums residue) ∷ codes "</section>\n" ∷ [])

-- what a reason means, and what to do about it
abbrev pub part_head_text : Reason → List ℕ
part_head_text reason = all_of (
    codes "<section id=\"" ∷ reason_text reason ∷ codes "\"><h2><svg class=\"key " ∷ reason_text reason
    ∷ codes "\" viewBox=\"0 0 1 1\" aria-hidden=\"true\"><rect width=\"1\" height=\"1\"/></svg>" ∷ reason_name reason
    ∷ codes " <span class=\"code\">" ∷ reason_text reason ∷ codes "</span></h2><p>" ∷ meaning_of reason
    ∷ codes "</p><div class=\"todo\"><p><b>What to do.</b> " ∷ todo_of reason ∷ codes "</p></div>\n" ∷ [])

-- the section of a reason, where lines have it and their works stand in this order
abbrev pub part_text : (names : List (ℕ × List ℕ)) → (decimals : ℕ) → Reason → List Portion
    → (ordered : List (List Portion))
    → List ℕ
part_text names decimals reason list ordered =
    if length list == 0 then []
    else all_of (part_head_text reason ∷ table_text names decimals reason list ordered ∷ codes "</section>\n" ∷ [])

pub record HasPart (names : List (ℕ × List ℕ)) (decimals : ℕ) (reason : Reason) (list : List Portion)
    (before after : List ℕ) : Type 0 where
  pub ordered : List (List Portion)
  pub by_money : AreByMoney (sections_of list) ordered
  pub text : after ≡ before ++ part_text names decimals reason list ordered

-- the sections of all reasons, where the works of each stand in this order
abbrev pub parts_text : (names : List (ℕ × List ℕ)) → (decimals : ℕ) → Residue → (ordered : Reason
    → List (List Portion)) → List ℕ
parts_text names decimals residue ordered = all_of (
    part_text names decimals Work (residue Work) (ordered Work) ∷ part_text names decimals Land (residue Land)
    (ordered Land)
    ∷ part_text names decimals Over (residue Over) (ordered Over)
    ∷ part_text names decimals Open (residue Open) (ordered Open) ∷ [])

pub record HasParts (names : List (ℕ × List ℕ)) (decimals : ℕ) (residue : Residue)
    (before after : List ℕ) : Type 0 where
  pub ordered : Reason → List (List Portion)
  pub by_money : (reason : Reason) → AreByMoney (sections_of (residue reason)) (ordered reason)
  pub text : after ≡ before ++ parts_text names decimals residue ordered

-- what to do later, where something is held back
abbrev pub later_text : (lines : ℕ) → List ℕ
later_text lines = if lines == 0 then [] else LATER.now

abbrev pub page_text : Distribution → (names : List (ℕ × List ℕ)) → Residue → (ordered : Reason
    → List (List Portion)) → List ℕ
page_text distribution names residue ordered = all_of (
    frame.head_text (codes "Residue") [] distribution.title ∷ page_head_text distribution residue
    ∷ parts_text names distribution.decimals residue ordered ∷ later_text (lines_in (residue_sums residue))
    ∷ frame.tail_text (codes "Residue") [] distribution.title ∷ [])

-- The text is the page of the residue: what is held back for each reason, and the lines, work by work, those with most
-- money first.
pub record IsResiduePage (distribution : Distribution) (names : List (ℕ × List ℕ)) (residue : Residue)
    (text : List ℕ) : Type 0 where
  pub ordered : Reason → List (List Portion)
  pub by_money : (reason : Reason) → AreByMoney (sections_of (residue reason)) (ordered reason)
  pub text_is : text ≡ page_text distribution names residue ordered
