-- The answer's rows, one after another.
use Rattle.std.proofs.Common.{◌≡◌, ℕ, ◌+◌, ◌<◌, List, [], ◌++◌, length, map, take, get_or, codes, sym, ap, ◌∙◌, arith}
use Rattle.std.specs.Prelude.{flat_map, zip}
use Rattle.std.proofs.lemmas.List.{take_more, take_all, flat_map_more, get_or_append_left, get_or_push, get_or-map, length-map, length_push}
use Rattle.std.proofs.lemmas.Slice.Zip.{get_or-zip, length-zip}
use Rattle.pair_split.specs.Pair.{party_of, word_at}
use Rattle.pair_split.specs.Rows.{labels_of, row_of, text_of}

-- a row of a label and a portion
abbrev pub row : (List ℕ × List ℕ) × (ℕ × ℕ) → List ℕ
row e = row_of e.0.0 e.0.1 e.1.1

-- one more row
pub rows_more : (labels : List (List ℕ × List ℕ)) (portions : List (ℕ × ℕ)) (i : ℕ) (label : List ℕ × List ℕ) → i < length labels → i < length portions
    → get_or labels i ([], []) ≡ label
    → flat_map row (take i (zip labels portions)) ++ row_of label.0 label.1 (get_or portions i (0, 0)).1
    ≡ flat_map row (take (i + 1) (zip labels portions))
rows_more labels portions i label in_labels in_portions is =
    ap (λ (l : List ℕ × List ℕ). flat_map row (take i (zip labels portions)) ++ row (l, get_or portions i (0, 0))) (sym is)
    ∙ (ap (λ (e : (List ℕ × List ℕ) × (ℕ × ℕ)). flat_map row (take i (zip labels portions)) ++ row e) (sym (get_or-zip labels portions i (([], []), (0, 0)) in_labels in_portions))
    ∙ (flat_map_more row [] (take i (zip labels portions)) (get_or (zip labels portions) i (([], []), (0, 0)))
    ∙ ap (flat_map row) (sym (take_more (zip labels portions) i (([], []), (0, 0)) (rw (length-zip labels portions) (omega arith))))))

-- the label of a word
abbrev label : List ℕ → List ℕ × List ℕ
label word = (codes "P", party_of word)

pub length-labels : (words : List (List ℕ)) → length (labels_of words) ≡ length words + 1
length-labels words =
    length_push (map label words) (codes "M", [])
    ∙ ap (λ (n : ℕ). n + 1) (length-map words label)

pub label_at : (words : List (List ℕ)) (i : ℕ) → i < length words → get_or (labels_of words) i ([], []) ≡ (codes "P", party_of (word_at words i))
label_at words i lt =
    get_or_append_left (map label words) _ ([], []) i (rw (length-map words label) lt)
    ∙ get_or-map label words i [] ([], []) lt

pub label_last : (words : List (List ℕ)) → get_or (labels_of words) (length words) ([], []) ≡ (codes "M", [])
label_last words = get_or_push (map label words) (codes "M", []) ([], []) (length words) (length-map words label)

-- all rows
pub rows_all : (labels : List (List ℕ × List ℕ)) (portions : List (ℕ × ℕ)) (n : ℕ) → length labels ≡ n → flat_map row (take n (zip labels portions)) ≡ text_of labels portions
rows_all labels portions n is = ap (flat_map row) (take_all n (zip labels portions) (rw (length-zip labels portions) (omega arith)))
