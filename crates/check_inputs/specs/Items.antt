-- Lists with commas, and remarks that name the first ten of some items.
use Rattle.std.specs.Prelude.{ℕ, ◌-◌, ◌++◌, ◌∷◌, [], List, codes, decimal, flat_map, if◌then◌else◌, length, nat_lt, take}
use Rattle.std.specs.List.{join_by}
use Rattle.usage_totals.specs.declared.by_key.Ranked.{Ranked}
use Rattle.usage_totals.specs.declared.total.Total.{Total}
use Rattle.check_inputs.specs.Messages.{fact_line, remark_line}

-- how many there are behind the first ten
abbrev pub others_text : (count : ℕ) → List ℕ
others_text count = if nat_lt 10 count then codes " and " ++ decimal (count - 10) ++ codes " more" else []

-- how many items there are, and the first ten of them
abbrev pub items_text : {X : Type 0} → (words : X → List ℕ) → (kind : List ℕ) → List X → List ℕ
items_text words kind items =
    decimal (length items) ++ codes ", " ++ kind ++ join_by words (codes ", ") (take 10 items)
    ++ others_text (length items)

-- a remark on items that a run passes over, where there are any
abbrev pub items_line : {X : Type 0} → (words : X → List ℕ) → (path what kind : List ℕ) → List X → List ℕ
items_line words path what kind [] = []
items_line words path what kind (first ∷ later) =
    remark_line path (what ++ codes ": " ++ items_text words kind (first ∷ later))

-- the same of a kind of lines or rows, by their numbers
abbrev pub tally_line : (path what kind : List ℕ) → List ℕ → List ℕ
tally_line = items_line decimal

-- how many more there are of something than the ten that have a line each
abbrev pub further_line : (path what : List ℕ) → (count : ℕ) → List ℕ
further_line path what count = if nat_lt 10 count then fact_line path what (count - 10) else []

-- keys in order of money, each as a line, and how many more there are
abbrev pub ranked_text : {K : Type 0} → (line : K × Total → List ℕ) → (path what : List ℕ) → Ranked K → List ℕ
ranked_text line path what ranked = flat_map line ranked.first.items ++ further_line path what ranked.count
