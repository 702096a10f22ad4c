-- The head of the overview.
use Rattle.std.specs.Prelude.{ℕ, ◌==◌, ◌∷◌, [], List, codes, if◌then◌else◌}
use Rattle.overview_documents.specs.Overviews.{Overview}
use Rattle.overview_documents.specs.Payees.{Group, group_in_all}
use Rattle.overview_documents.specs.declared.heads.TheConstants.{PAGE_HEAD}
use Rattle.page_parts.specs.Facts.{Distribution, fact_text, figure_text}
use Rattle.page_parts.specs.Pieces.{all_of, in_page}
use Rattle.page_text.specs.Figures.{amount_text, count_text}
use Rattle.residue_documents.specs.Reasons.{amount_in, lines_in}

-- what all payees have
abbrev pub all_payees : Overview → Group
all_payees overview = group_in_all overview.payees

-- how many lines are reversals, and what they come to, where there are some
abbrev pub reversals_text : (decimals : ℕ) → Overview → List ℕ
reversals_text decimals overview =
    if overview.reversals.lines == 0 then []
    else all_of (
    codes "<div><dt>Reversals among the lines</dt><dd>" ∷ count_text overview.reversals.lines
    ∷ codes ", <span class=\"neg\">" ∷ amount_text decimals overview.reversals.amount ∷ codes "</span></dd></div>" ∷ [])

abbrev pub facts_text : Distribution → Overview → List ℕ
facts_text distribution overview = all_of (
    codes "<dl class=\"facts\">" ∷ fact_text (codes "Amounts in") distribution.currency
    ∷ fact_text (codes "Registrations") distribution.sources ∷ reversals_text distribution.decimals overview
    ∷ codes "</dl>\n" ∷ [])

abbrev pub note_text : (words : List ℕ) → (count : ℕ) → List ℕ
note_text words count = all_of (words ∷ count_text count ∷ codes "</i></p>" ∷ [])

-- what came in, what payees have, and what is held back
abbrev pub sum_text : Distribution → Overview → (all : Group) → List ℕ
sum_text distribution overview all = all_of (
    codes "<div class=\"sum\">" ∷ figure_text distribution.decimals (codes "Usage money") overview.lines.amount []
    ∷ note_text (codes "lines: ") overview.lines.lines ∷ codes "<span class=\"op\">=</span>"
    ∷ figure_text distribution.decimals (codes "To payees") all.amount []
    ∷ note_text (codes "payees: ") all.payees ∷ codes "<span class=\"op\">+</span>"
    ∷ figure_text distribution.decimals (codes "Residue") (amount_in overview.residue) []
    ∷ note_text (codes "lines: ") (lines_in overview.residue) ∷ codes "</div>\n" ∷ [])

abbrev pub head_text : Distribution → Overview → List ℕ
head_text distribution overview = all_of (
    PAGE_HEAD.now ∷ in_page distribution.title ∷ codes "</h1>\n" ∷ facts_text distribution overview
    ∷ sum_text distribution overview (all_payees overview) ∷ codes "</header>\n" ∷ [])
