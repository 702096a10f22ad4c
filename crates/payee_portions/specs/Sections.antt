-- The sections of a list of portions: one for each work, since the portions of a work stand together.
use Rattle.std.specs.Prelude.{ℕ, zero, suc, ◌+◌, ◌∷◌, [], Bool, List, drop, length, nat_eq, take}
use Rattle.std.specs.Cmp.Lexicographic.{pointwise}
use Rattle.std.specs.List.{take_while}
use Rattle.payee_portions.specs.Portions.{Portion}

-- the portion is of the work
abbrev pub is_of : (work : List ℕ) → Portion → Bool
is_of work portion = pointwise nat_eq portion.line.work work

-- how many portions the first section of a list has: the first portion, and those behind it that are of its work
abbrev pub section_length : List Portion → ℕ
section_length [] = 0
section_length (first ∷ later) = 1 + length (take_while (is_of first.line.work) later)

-- the sections of a list; fuel is at least the number of portions
unfoldable pub sections_from : ℕ → List Portion → List (List Portion)
sections_from zero list = []
sections_from (suc n) [] = []
sections_from (suc n) (first ∷ later) =
    take (section_length (first ∷ later)) (first ∷ later)
    ∷ sections_from n (drop (section_length (first ∷ later)) (first ∷ later))

abbrev pub sections_of : List Portion → List (List Portion)
sections_of list = sections_from (length list) list
