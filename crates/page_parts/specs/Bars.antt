-- A table with a bar in each row.
use Rattle.std.specs.Prelude.{ℕ, ℤ, pos, negsuc, suc, ◌+◌, ◌-◌, ◌≤◌, ◌==◌, ◌^◌, ◌++◌, ◌∷◌, [], All, Bool, true, false, List}
use Rattle.std.specs.Prelude.{codes, decimal, flat_map, if◌then◌else◌, int_lt, map, max, min, unsigned_abs, length}
use Rattle.page_parts.specs.Parts.{thousandths}
use Rattle.page_parts.specs.Pieces.{all_of, in_page}
use Rattle.page_parts.specs.Tags.{row_tag_text}
use Rattle.page_parts.specs.declared.bars.BarRow.{BarRow}
use Rattle.page_parts.specs.declared.bars.BarTable.{BarTable}
use Rattle.page_parts.specs.declared.bars.Others as kept_others
use Rattle.page_parts.specs.declared.bars.Scale.{Scale}
use Rattle.page_text.specs.Figures.{amount_text, count_text}

-- a row: what it is of, how many portions there are, and what they come to
pub record Row : Type 0 where
  pub name : List ℕ
  pub code : List ℕ
  pub page : List ℕ
  pub count : ℕ
  pub amount : ℤ

-- the rows that a table leaves out
pub record Others : Type 0 where
  pub rows : ℕ
  pub count : ℕ
  pub amount : ℤ

pub record Table : Type 0 where
  pub caption : List ℕ
  pub head : List ℕ
  pub rows : List Row
  pub rest : List ℕ
  pub others : Others
  pub total : List ℕ
  pub count : ℕ
  pub amount : ℤ

-- as they are kept
abbrev pub row_shown : BarRow → Row
row_shown row = record {
  name = row.name.now;
  code = row.code.now;
  page = row.page.now;
  count = row.count;
  amount = row.amount;
}

abbrev pub others_shown : kept_others.Others → Others
others_shown others = record { rows = others.rows; count = others.count; amount = others.amount }

abbrev pub table_shown : BarTable → Table
table_shown table = record {
  caption = table.caption.now;
  head = table.head.now;
  rows = map row_shown table.rows.now;
  rest = table.rest.now;
  others = others_shown table.others;
  total = table.total.now;
  count = table.count;
  amount = table.amount;
}

-- amounts that can be drawn
pub record AreSmall (table : Table) : Type 0 where
  pub rows : All (λ row. unsigned_abs row.amount ≤ 2 ^ 100) table.rows
  pub others : unsigned_abs table.others.amount ≤ 2 ^ 100

-- how far amounts reach below 0, and above it
abbrev pub below : ℤ → ℕ
below (pos n) = 0
below (negsuc n) = suc n

abbrev pub above : ℤ → ℕ
above (pos n) = n
above (negsuc n) = 0

abbrev pub farthest : (ℤ → ℕ) → List ℤ → ℕ
farthest reach [] = 0
farthest reach (amount ∷ later) = max (reach amount) (farthest reach later)

abbrev pub amounts_of : Table → List ℤ
amounts_of table = table.others.amount ∷ map (λ row. row.amount) table.rows

abbrev pub scale_for : Table → Scale
scale_for table = record { below = farthest below (amounts_of table); above = farthest above (amounts_of table) }

-- where 0 is, in thousandths of the scale
abbrev pub zero_of : Scale → ℕ
zero_of scale = if (scale.below + scale.above) == 0 then 0 else thousandths scale.below (scale.below + scale.above)

-- how wide a bar is: one that is not 0 can be seen
abbrev pub width_in : Scale → (size : ℕ) → ℕ
width_in scale size = if size == 0 then 0 else max (thousandths size (scale.below + scale.above)) 3

-- a bar goes to the left of 0 where it is negative, and does not leave the picture
abbrev pub start_at : (at width : ℕ) → (is_negative : Bool) → ℕ
start_at at width is_negative = if is_negative then at - width else min at (1000 - width)

abbrev pub start_in : Scale → ℤ → ℕ
start_in scale amount =
    start_at (zero_of scale) (width_in scale (unsigned_abs amount)) (int_lt amount (pos 0))

abbrev pub bar_class_text : (is_rest is_negative : Bool) → List ℕ
bar_class_text is_rest is_negative =
    if is_rest then codes " class=\"rest\"" else (if is_negative then codes " class=\"minus\"" else [])

-- the line at 0, where a bar goes to the left of it; it does not leave the picture either
abbrev pub axis_text : (below at : ℕ) → List ℕ
axis_text below at =
    if below == 0 then []
    else all_of (codes "<rect class=\"axis\" x=\"" ∷ decimal (min at 997) ∷ codes "\" width=\"3\" height=\"1\"/>" ∷ [])

abbrev pub bar_text : Scale → (is_rest : Bool) → ℤ → List ℕ
bar_text scale is_rest amount = all_of (
    codes "<svg class=\"bar\" viewBox=\"0 0 1000 1\" preserveAspectRatio=\"none\" aria-hidden=\"true\"><rect"
    ∷ bar_class_text is_rest (int_lt amount (pos 0))
    ∷ codes " x=\"" ∷ decimal (start_in scale amount)
    ∷ codes "\" width=\"" ∷ decimal (width_in scale (unsigned_abs amount))
    ∷ codes "\" height=\"1\"/>" ∷ axis_text scale.below (zero_of scale) ∷ codes "</svg>" ∷ [])

abbrev pub figures_text : (decimals count : ℕ) → (amount : ℤ) → List ℕ
figures_text decimals count amount = all_of (
    codes "</td><td class=\"n opt\">" ∷ count_text count ∷ codes "</td><td class=\"n\">" ∷ amount_text decimals amount
    ∷ codes "</td></tr>\n" ∷ [])

-- a name that leads to its page, where there is one, and the code behind it, where there is one
abbrev pub name_text : Row → List ℕ
name_text row =
    if length row.page == 0 then in_page row.name
    else all_of (codes "<a href=\"payees/" ∷ in_page row.page ∷ codes ".html\">" ∷ in_page row.name ∷ codes "</a>" ∷ [])

abbrev pub code_text : (code : List ℕ) → List ℕ
code_text code =
    if length code == 0 then [] else all_of (codes " <span class=\"code\">" ∷ in_page code ∷ codes "</span>" ∷ [])

abbrev pub label_text : Row → List ℕ
label_text row = name_text row ++ code_text row.code

abbrev pub row_text : (decimals : ℕ) → Scale → Row → List ℕ
row_text decimals scale row = all_of (
    row_tag_text (int_lt row.amount (pos 0)) ∷ codes "<th scope=\"row\">" ∷ label_text row ∷ codes "</th><td>"
    ∷ bar_text scale false row.amount ∷ figures_text decimals row.count row.amount ∷ [])

abbrev pub others_text : (decimals : ℕ) → Scale → (rest : List ℕ) → Others → List ℕ
others_text decimals scale rest others = all_of (
    row_tag_text (int_lt others.amount (pos 0)) ∷ codes "<th scope=\"row\"><small>" ∷ count_text others.rows ∷ codes " "
    ∷ rest ∷ codes "</small></th><td>" ∷ bar_text scale true others.amount
    ∷ figures_text decimals others.count others.amount ∷ [])

abbrev pub bars_head : Table → List ℕ
bars_head table = all_of (
    codes "<table class=\"bars\"><caption>" ∷ table.caption ∷ codes "</caption><thead><tr><th scope=\"col\">"
    ∷ table.head
    ∷ codes "</th><td></td><th scope=\"col\" class=\"n opt\">Portions</th>"
    ∷ codes "<th scope=\"col\" class=\"n\">Amount</th></tr></thead><tbody>\n" ∷ [])

-- what all come to
abbrev pub sums_text : (decimals : ℕ) → Table → List ℕ
sums_text decimals table = all_of (
    codes "</tbody><tfoot>" ∷ row_tag_text (int_lt table.amount (pos 0)) ∷ codes "<th scope=\"row\" colspan=\"2\">"
    ∷ table.total ∷ codes "</th><td class=\"n opt\">"
    ∷ count_text table.count ∷ codes "</td><td class=\"n\">" ∷ amount_text decimals table.amount
    ∷ codes "</td></tr></tfoot></table>\n" ∷ [])

-- The table: a row for each that is shown, one for those that are left out, where there are some, and the sum.
abbrev pub bars_text : (decimals : ℕ) → Table → List ℕ
bars_text decimals table = all_of (
    bars_head table ∷ flat_map (row_text decimals (scale_for table)) table.rows
    ∷ (if table.others.rows == 0 then [] else others_text decimals (scale_for table) table.rest table.others)
    ∷ sums_text decimals table ∷ [])

-- a scale that has room for one more amount
abbrev pub widened : Scale → ℤ → Scale
widened scale amount = record { below = max scale.below (below amount); above = max scale.above (above amount) }
