-- The sheet of a payee's portions, as CSV.
use Rattle.std.specs.Prelude.{ℕ, ◌∷◌, [], List, codes, decimal, map}
use Rattle.std.specs.Fmt.{signed_decimal}
use Rattle.explain_line.specs.Explanation.{right_text}
use Rattle.page_text.specs.Formulas.{guarded}
use Rattle.page_text.specs.Shown.{shown}
use Rattle.payee_portions.specs.Portions.{Portion}

abbrev pub sheet_header : List (List ℕ)
sheet_header =
    codes "row" ∷ codes "usage" ∷ codes "work" ∷ codes "title" ∷ codes "territory" ∷ codes "right" ∷ codes "amount"
    ∷ codes "share" ∷ codes "base" ∷ codes "portion" ∷ []

-- the row of a portion
abbrev pub sheet_row : Portion → List (List ℕ)
sheet_row portion =
    decimal portion.row ∷ guarded portion.line.usage ∷ guarded portion.line.work ∷ guarded (shown portion.title)
    ∷ decimal portion.line.territory ∷ right_text portion.line.right ∷ signed_decimal portion.line.amount
    ∷ decimal portion.share ∷ decimal portion.base ∷ signed_decimal portion.amount ∷ []

abbrev pub sheet_rows : List Portion → List (List (List ℕ))
sheet_rows portions = sheet_header ∷ map sheet_row portions
