-- The table of the lines that are held back for a reason.
use Rattle.std.specs.Prelude.{ℕ, pos, ◌≡◌, ◌++◌, ◌∷◌, [], List, codes, decimal, flat_map, int_lt, length}
use Rattle.document_names.specs.Territories.{name_of_code}
use Rattle.line_split.specs.declared.reason.Reason.{Reason}
use Rattle.line_split.specs.declared.reason.Reason.TheVariants.{Land, Open}
use Rattle.page_parts.specs.Cells.{line_cells_text, work_row_text}
use Rattle.page_parts.specs.Pieces.{all_of}
use Rattle.page_parts.specs.Tags.{work_tag_text}
use Rattle.page_text.specs.Figures.{amount_text, count_text, size_text}
use Rattle.payee_portions.specs.Held.{AreByMoney}
use Rattle.payee_portions.specs.Portions.{Portion}
use Rattle.payee_portions.specs.Sections.{sections_of}
use Rattle.payee_portions.specs.Sums.{sum_of}

-- how many columns stand before that of what is held back
abbrev pub columns_of : Reason → ℕ
columns_of Open = 6
columns_of _ = 4

-- what is held back of a line, and before it, where nobody claims a share, the amount of the use and that share
abbrev pub figures_text : (decimals : ℕ) → Reason → Portion → List ℕ
figures_text decimals reason portion = open_part reason ++ all_of (
    codes "<td>" ∷ amount_text decimals portion.amount ∷ codes "</td></tr>\n" ∷ [])
  where
    open_part : Reason → List ℕ
    open_part Open = all_of (
        codes "<td>" ∷ amount_text decimals portion.line.amount ∷ codes "</td><td>" ∷ size_text 2 portion.share
        ∷ codes "</td>" ∷ [])
    open_part _ = []

-- the row of a line
abbrev pub line_text : (names : List (ℕ × List ℕ)) → (decimals : ℕ) → Reason → Portion → List ℕ
line_text names decimals reason portion =
    line_cells_text (name_of_code names portion.line.territory) portion.row portion.line
    ++ figures_text decimals reason portion

-- the row of a work: its title, and what is held back of it
abbrev pub work_text : (decimals : ℕ) → Reason → List Portion → List ℕ
work_text decimals reason [] = []
work_text decimals reason (first ∷ later) =
    work_row_text decimals (columns_of reason) first.title first.line.work (length (first ∷ later)) (sum_of (first
    ∷ later))

-- the lines of a work
abbrev pub section_text : (names : List (ℕ × List ℕ)) → (decimals : ℕ) → Reason → List Portion → List ℕ
section_text names decimals reason section =
    work_text decimals reason section
    ++ (flat_map (line_text names decimals reason) section ++ codes "</tbody>\n")

abbrev pub open_heads_text : Reason → List ℕ
open_heads_text Open = codes "<th scope=\"col\">Amount of the use</th><th scope=\"col\">Unclaimed,&#160;%</th>"
open_heads_text _ = []

-- territories that are unknown have no names
abbrev pub table_tag_text : Reason → List ℕ
table_tag_text Land = codes "<table class=\"uses codes\" translate=\"no\">"
table_tag_text _ = codes "<table class=\"uses\" translate=\"no\">"

abbrev pub head_text : Reason → List Portion → List ℕ
head_text reason list = all_of (
    table_tag_text reason ∷ codes "<caption>Works with most money first: "
    ∷ count_text (length (sections_of list))
    ∷ codes "</caption>\n<thead><tr><th scope=\"col\">Row</th><th scope=\"col\">Use</th>"
    ∷ codes "<th scope=\"col\">Territory</th><th scope=\"col\">Right</th>"
    ∷ open_heads_text reason ∷ codes "<th scope=\"col\">Held back</th></tr></thead>\n" ∷ [])

abbrev pub total_text : (decimals : ℕ) → Reason → List Portion → List ℕ
total_text decimals reason list = all_of (
    codes "<tfoot>" ∷ work_tag_text (int_lt (sum_of list) (pos 0)) ∷ codes "<th scope=\"row\" colspan=\""
    ∷ decimal (columns_of reason)
    ∷ codes "\">Held back</th><td>" ∷ amount_text decimals (sum_of list) ∷ codes "</td></tr></tfoot>\n</table>\n" ∷ [])

-- the table, where the sections of its works stand in this order
abbrev pub table_text : (names : List (ℕ × List ℕ)) → (decimals : ℕ) → Reason → List Portion
    → (ordered : List (List Portion))
    → List ℕ
table_text names decimals reason list ordered =
    head_text reason list
    ++ (flat_map (section_text names decimals reason) ordered ++ total_text decimals reason list)

-- behind what stood in a page there is the table of these portions, the works with most money first
pub record HasTable (names : List (ℕ × List ℕ)) (decimals : ℕ) (reason : Reason) (list : List Portion)
    (before after : List ℕ) : Type 0 where
  pub ordered : List (List Portion)
  pub by_money : AreByMoney (sections_of list) ordered
  pub text : after ≡ before ++ table_text names decimals reason list ordered
