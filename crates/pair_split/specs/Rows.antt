-- The answer's CSV text.
use Rattle.std.specs.Prelude.{ℕ, List, [], ◌∷◌, ◌++◌, map, flat_map, zip, codes, decimal}
use Rattle.csv_table.specs.Written.{text_of_row}
use Rattle.line_split.specs.LargestRemainder.{portions_of}
use Rattle.pair_split.specs.Pair.{party_of, claims_of}

-- a row of three fields
abbrev pub row_of : (kind party : List ℕ) → ℕ → List ℕ
row_of kind party portion = text_of_row (kind ∷ party ∷ decimal portion ∷ [])

-- the first two fields of each row: `P` and the party of a word, and last `M` and nothing for the residue
abbrev pub labels_of : List (List ℕ) → List (List ℕ × List ℕ)
labels_of words = map (λ word. (codes "P", party_of word)) words ++ (codes "M", []) ∷ []

-- a row for each portion
abbrev pub text_of : List (List ℕ × List ℕ) → List (ℕ × ℕ) → List ℕ
text_of labels portions = flat_map (λ e. row_of e.0.0 e.0.1 e.1.1) (zip labels portions)

-- the division of an amount by words, as rows
abbrev pub split_text : ℕ → List (List ℕ) → List ℕ
split_text amount words = text_of (labels_of words) (portions_of amount (claims_of words))
