-- Two lists of portions, use by use.
use Rattle.std.specs.Prelude.{ℕ, ℤ, ◌≡◌, ◌<◌, ◌/◌, ◌%◌, ◌+ℤ◌, ◌++◌, ◌∷◌, [], List, All, filter, flat_map, map, nat_lt}
use Rattle.std.specs.Prelude.{replicate, unsigned_abs}
use Rattle.std.specs.Cmp.Lexicographic.{slice_cmp}
use Rattle.std.specs.List.Sorted.{IsStrictlySortedBy}
use Rattle.std.specs.Ordering.{nat_cmp}
use Rattle.std.specs.Str.{bytes_eq}
use Rattle.line_split.specs.Signs.{int_sum_by, with_sign_of}
use Rattle.merge_statements.specs.Statements.{Portion}

-- what the portions of a use come to
abbrev pub sum_of : List ℕ → List Portion → ℤ
sum_of usage portions =
    int_sum_by (λ portion. portion.amount) (filter (λ portion. bytes_eq portion.usage usage) portions)

-- The uses that come to something else in the second list than in the first, each once and in byte order, and by how
-- much. So the first and the differences come to the second, use by use.
pub record AreDifferences (paid right differences : List Portion) : Type 0 where
  pub rising : IsStrictlySortedBy (slice_cmp nat_cmp) (map (λ difference. difference.usage) differences)
  pub some : All (λ difference. 0 < unsigned_abs difference.amount) differences
  pub each : (usage : List ℕ) → sum_of usage paid +ℤ sum_of usage differences ≡ sum_of usage right

-- the most that one row holds
abbrev pub row_holds : ℕ
row_holds = 1000000000000

-- A size as the sizes of rows: as many full rows as there are in it, and one of what is left, if anything is.
abbrev pub sizes_of : ℕ → List ℕ
sizes_of size = replicate (size / row_holds) row_holds ++ filter (nat_lt 0) (size % row_holds ∷ [])

-- a difference as rows, each with its sign: one, where one row holds it
abbrev pub rows_of : Portion → List Portion
rows_of difference =
    map (λ size. record { usage = difference.usage; amount = with_sign_of difference.amount size })
    (sizes_of (unsigned_abs difference.amount))

-- the rows of all differences
pub record AreRowsOfDifferences (paid right rows : List Portion) : Type 0 where
  pub differences : List Portion
  pub are : AreDifferences paid right differences
  pub all : rows ≡ flat_map rows_of differences
