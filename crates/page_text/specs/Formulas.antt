-- Fields of CSV that a spreadsheet would take for a formula.
use Rattle.std.specs.Prelude.{ℕ, ◌==◌, ◌||◌, ◌∷◌, Bool, List, if◌then◌else◌, slice_index}

-- one of = + - @
abbrev pub begins_formula : ℕ → Bool
begins_formula byte = (byte == 61) || (byte == 43) || (byte == 45) || (byte == 64)

-- a text, behind a single quote where it would begin a formula
abbrev pub guarded : List ℕ → List ℕ
guarded text = if begins_formula (slice_index text 0) then 39 ∷ text else text
