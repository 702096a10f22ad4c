-- What a payee's total is made of: by right, and by territory.
use Rattle.std.specs.Prelude.{ℕ, pos, ◌≡◌, ◌++◌, ◌==◌, ◌∷◌, [], List, codes, decimal, filter, if◌then◌else◌, int_lt}
use Rattle.std.specs.Prelude.{length, map, nat_lt}
use Rattle.document_names.specs.Territories.{name_of_code}
use Rattle.explain_line.specs.Explanation.{right_text}
use Rattle.line_split.specs.declared.usage.Right.{Right}
use Rattle.line_split.specs.declared.usage.Right.TheVariants.{P, M, S}
use Rattle.page_parts.specs.Bars.{Others, Row, bars_text}
use Rattle.page_parts.specs.Cells.{right_name}
use Rattle.page_parts.specs.Pieces.{all_of}
use Rattle.page_parts.specs.Shortened.{IsShortened}
use Rattle.payee_documents.specs.Heads.{due_label_text}
use Rattle.payee_portions.specs.Lands.{AreTerritories, portions_in}
use Rattle.payee_portions.specs.Portions.{Portion}
use Rattle.payee_portions.specs.Sums.{portions_for, sum_for, sum_of}

-- the row of a right
abbrev pub right_row : List Portion → Right → Row
right_row portions right = record {
  name = right_name right;
  code = right_text right;
  page = [];
  count = length (portions_for right portions);
  amount = sum_for right portions;
}

-- those of the rights that there are portions of
abbrev pub right_rows : List Portion → List Row
right_rows portions = filter (λ row. nat_lt 0 row.count) (map (right_row portions) (P ∷ M ∷ S ∷ []))

-- a table of rows, whose sum is that of all portions
abbrev pub table_text : (decimals : ℕ) → (caption head : List ℕ) → List Row → (rest : List ℕ) → Others
    → List Portion → List ℕ
table_text decimals caption head rows rest others portions = bars_text decimals record {
  caption = caption;
  head = head;
  rows = rows;
  rest = rest;
  others = others;
  total = due_label_text (int_lt (sum_of portions) (pos 0));
  count = length portions;
  amount = sum_of portions;
}

abbrev pub rights_text : (decimals : ℕ) → List Portion → List ℕ
rights_text decimals portions =
    table_text decimals (codes "By right") (codes "Right") (right_rows portions) []
    (record { rows = 0; count = 0; amount = pos 0 }) portions

-- the row of a territory: by its name and its code, or by its code alone where it has no name
abbrev pub land_row : (names : List (ℕ × List ℕ)) → List Portion → (code : ℕ) → Row
land_row names portions code = record {
  name = if length (name_of_code names code) == 0 then decimal code else name_of_code names code;
  code = if length (name_of_code names code) == 0 then [] else decimal code;
  page = [];
  count = length (portions_in code portions);
  amount = sum_of (portions_in code portions);
}

-- the territories with the highest amounts, and the others
pub record AreLands (names : List (ℕ × List ℕ)) (portions : List Portion) (shown : List Row)
    (others : Others) : Type 0 where
  pub territories : List ℕ
  pub are : AreTerritories portions territories
  pub shortened : IsShortened 8 (map (land_row names portions) territories) shown others

abbrev pub lands_text : (decimals : ℕ) → List Row → Others → List Portion → List ℕ
lands_text decimals shown others portions =
    table_text decimals (codes "By territory") (codes "Territory") shown (codes "other territories") others portions

-- behind what stood in a page there is such a table
pub record HasLands (names : List (ℕ × List ℕ)) (decimals : ℕ) (portions : List Portion)
    (before after : List ℕ) : Type 0 where
  pub shown : List Row
  pub others : Others
  pub lands : AreLands names portions shown others
  pub text : after ≡ before ++ lands_text decimals shown others portions

-- both tables
abbrev pub breakdowns_text : (decimals : ℕ) → List Row → Others → List Portion → List ℕ
breakdowns_text decimals shown others portions = all_of (
    codes "<section><h2>What it is made of</h2><div class=\"stack\"><div>" ∷ rights_text decimals portions
    ∷ codes "</div><div>" ∷ lands_text decimals shown others portions ∷ codes "</div></div></section>\n" ∷ [])

pub record HasBreakdowns (names : List (ℕ × List ℕ)) (decimals : ℕ) (portions : List Portion)
    (before after : List ℕ) : Type 0 where
  pub shown : List Row
  pub others : Others
  pub lands : AreLands names portions shown others
  pub text : after ≡ before ++ breakdowns_text decimals shown others portions
