-- A sheet reads back.
use Rattle.std.proofs.Common.{◌≡◌, ◌∙◌, ◌+◌, ◌<◌, ◌++◌, ◌∷◌, [], ℕ, List, ap, append-nil, append_assoc, drop, get_or, length, map, refl, sym, take}
use Rattle.std.proofs.lemmas.Grind.{flat_map-append}
use Rattle.std.proofs.lemmas.List.{map_push, take_more}
use Rattle.csv.specs.Reading.{default_config, records}
use Rattle.csv.specs.Writing.{read_back}
use Rattle.csv_table.specs.Table.{rows_of}
use Rattle.csv_table.specs.Written.{text_of, text_of_row}
use Rattle.csv_table.proofs.ReadBack.{no_mark, rows_read_back}
use Rattle.payee_documents.specs.Sheet.{sheet_header, sheet_row, sheet_rows}
use Rattle.payee_portions.specs.Portions.{Portion}
use Rattle.payee_portions.specs.Shown.{portion_shown, portions_shown}
use Rattle.payee_portions.specs.declared.portion.Portion as kept

-- no row is empty
rows_stay : (portions : List Portion) → map read_back (map sheet_row portions) ≡ map sheet_row portions
rows_stay [] = refl
rows_stay (portion ∷ portions) = ap (λ (rows : List (List (List ℕ))). sheet_row portion ∷ rows) (rows_stay portions)

pub sheet_reads_back : (portions : List Portion) → rows_of (text_of (sheet_rows portions)) ≡ sheet_rows portions
sheet_reads_back portions =
    ap (records default_config) (no_mark 114 (drop 1 (text_of (sheet_rows portions))) refl)
    ∙ (rows_read_back (sheet_rows portions) ∙ ap (λ (rows : List (List (List ℕ))). sheet_header ∷ rows) (rows_stay portions))

-- the rows of portions, and of one more
one_row_more : (list : List kept.Portion) (portion : kept.Portion)
    → text_of (map sheet_row (portions_shown (list ++ portion ∷ []))) ≡ text_of (map sheet_row (portions_shown list)) ++ text_of_row (sheet_row (portion_shown portion))
one_row_more list portion =
    let row = text_of_row (sheet_row (portion_shown portion)) in
    ap (λ (l : List Portion). text_of (map sheet_row l)) (map_push portion_shown list portion)
    ∙ (ap text_of (map_push sheet_row (portions_shown list) (portion_shown portion))
    ∙ (flat_map-append text_of_row (map sheet_row (portions_shown list)) (sheet_row (portion_shown portion) ∷ [])
    ∙ ap (λ (l : List ℕ). text_of (map sheet_row (portions_shown list)) ++ l) (append-nil row)))

pub rows_more : (list : List kept.Portion) (place : ℕ) (d : kept.Portion) → place < length list → (start text new : List ℕ)
    → text ≡ start ++ text_of (map sheet_row (portions_shown (take place list)))
    → new ≡ text ++ text_of_row (sheet_row (portion_shown (get_or list place d)))
    → new ≡ start ++ text_of (map sheet_row (portions_shown (take (place + 1) list)))
rows_more list place d within start text new so_far more =
    let row = text_of_row (sheet_row (portion_shown (get_or list place d))) in
    let rows = text_of (map sheet_row (portions_shown (take place list))) in
    more
    ∙ (ap (λ (l : List ℕ). l ++ row) so_far
    ∙ (append_assoc start rows row
    ∙ ap (λ (l : List ℕ). start ++ l)
    (sym (one_row_more (take place list) (get_or list place d)) ∙ ap (λ (l : List kept.Portion). text_of (map sheet_row (portions_shown l))) (sym (take_more list place d within)))))
