-- The table of a payee's portions in its page.
use Rattle.std.specs.Prelude.{ℕ, pos, ◌++◌, ◌==◌, ◌∷◌, [], List, codes, flat_map, if◌then◌else◌, int_lt, length}
use Rattle.document_names.specs.Territories.{name_of_code}
use Rattle.line_split.specs.declared.TheConstants.{FULL_SHARE}
use Rattle.page_parts.specs.Cells.{line_cells_text, work_row_text}
use Rattle.page_parts.specs.Pieces.{all_of}
use Rattle.page_parts.specs.Tags.{work_tag_text}
use Rattle.page_text.specs.Figures.{amount_text, count_text, size_text}
use Rattle.payee_portions.specs.Portions.{Portion}
use Rattle.payee_portions.specs.Sections.{sections_of}
use Rattle.payee_portions.specs.Sums.{sum_of}

-- a share in per cent, with two decimal places, and what it is a share of, where that is not 100 per cent
abbrev pub share_text : (share base : ℕ) → List ℕ
share_text share base = size_text 2 share ++ (if base == FULL_SHARE then [] else codes " / " ++ size_text 2 base)

-- the amount of the use, the share and the portion
abbrev pub figures_text : (decimals : ℕ) → Portion → List ℕ
figures_text decimals portion = all_of (
    codes "<td>" ∷ amount_text decimals portion.line.amount
    ∷ codes "</td><td>" ∷ share_text portion.share portion.base
    ∷ codes "</td><td>" ∷ amount_text decimals portion.amount
    ∷ codes "</td></tr>\n" ∷ [])

-- The row of a portion: the row of its usage line, the use, the territory, the right, the amount of the use, the share
-- and the portion.
abbrev pub use_text : (names : List (ℕ × List ℕ)) → (decimals : ℕ) → Portion → List ℕ
use_text names decimals portion =
    line_cells_text (name_of_code names portion.line.territory) portion.row portion.line
    ++ figures_text decimals portion

-- the row of a work: its title, and what its portions come to
abbrev pub work_text : (decimals : ℕ) → List Portion → List ℕ
work_text decimals [] = []
work_text decimals (first ∷ later) =
    work_row_text decimals 6 first.title first.line.work (length (first ∷ later)) (sum_of (first ∷ later))

-- the portions of a work
abbrev pub section_text : (names : List (ℕ × List ℕ)) → (decimals : ℕ) → List Portion → List ℕ
section_text names decimals section =
    work_text decimals section ++ (flat_map (use_text names decimals) section ++ codes "</tbody>\n")

-- the row of the total, and the end of the table
abbrev pub total_text : (decimals : ℕ) → List Portion → List ℕ
total_text decimals portions = all_of (
    codes "<tfoot>" ∷ work_tag_text (int_lt (sum_of portions) (pos 0))
    ∷ codes "<th scope=\"row\" colspan=\"6\">Total</th><td>"
    ∷ amount_text decimals (sum_of portions)
    ∷ codes "</td></tr></tfoot>\n</table>\n" ∷ [])

abbrev pub uses_head : List Portion → List ℕ
uses_head portions = all_of (
    codes "<table class=\"uses\" translate=\"no\"><caption>Works by title: "
    ∷ count_text (length (sections_of portions))
    ∷ codes "</caption>\n<thead><tr><th scope=\"col\">Row</th><th scope=\"col\">Use</th>"
    ∷ codes "<th scope=\"col\">Territory</th><th scope=\"col\">Right</th>"
    ∷ codes "<th scope=\"col\">Amount of the use</th><th scope=\"col\">Your share,&#160;%</th>"
    ∷ codes "<th scope=\"col\">Your portion</th></tr></thead>\n" ∷ [])

-- the table of a list of portions
abbrev pub uses_text : (names : List (ℕ × List ℕ)) → (decimals : ℕ) → List Portion → List ℕ
uses_text names decimals listed =
    uses_head listed
    ++ (flat_map (section_text names decimals) (sections_of listed) ++ total_text decimals listed)
