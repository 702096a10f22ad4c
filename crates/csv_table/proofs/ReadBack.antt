-- Rows that were written read back.
use Rattle.std.proofs.Common.{◌≡◌, ◌<◌, ◌+◌, ℕ, zero, suc, List, [], ◌∷◌, ◌++◌, length, map, false, refl, ap, arith}
use Rattle.std.specs.Prelude.{◌==◌, if◌then◌else◌}
use Rattle.std.proofs.lemmas.List.{length-append}
use Rattle.csv.proofs.RoundTrip.{read-write}
use Rattle.csv.specs.Reading.{default_config, records, records_from, strip_bom}
use Rattle.csv.specs.Writing.{default_writer, is_blank, read_back, row_body}
use Rattle.csv.specs.declared.parser.State.TheVariants as st
use Rattle.csv_table.specs.Written.{text_of, text_of_row}
use Rattle.csv_table.proofs.Walks.{ends}

-- a row takes at least a byte
some : (row : List (List ℕ)) → 0 < length (text_of_row row)
some row =
    let whole = length-append {A = ℕ} (row_body default_writer row) ((if is_blank default_writer row then 34 ∷ 34 ∷ [] else []) ++ 10 ∷ []) in
    let last = length-append {A = ℕ} (if is_blank default_writer row then 34 ∷ 34 ∷ [] else []) (10 ∷ []) in
    omega (arith, whole, last)

all_back : (n : ℕ) (rows : List (List (List ℕ))) → length (text_of rows) < n → records_from default_config n st.StartRecord (text_of rows) ≡ map read_back rows
unfolding records_from
all_back zero rows lt = absurd (omega (arith, lt))
all_back (suc n) [] lt = ends (suc n)
all_back (suc n) (row ∷ rows) lt =
    let size = length-append (text_of_row row) (text_of rows) in
    rw (read-write row (text_of rows)) (ap (λ (l : List (List (List ℕ))). read_back row ∷ l) (all_back n rows (omega (arith, lt, size, some row))))

pub rows_read_back : (rows : List (List (List ℕ))) → records default_config (text_of rows) ≡ map read_back rows
rows_read_back rows = all_back (length (text_of rows) + 1) rows (omega arith)

-- a text that does not begin with the first byte of a byte order mark stays whole
pub no_mark : (first : ℕ) (text : List ℕ) → (first == 239) ≡ false → strip_bom (first ∷ text) ≡ first ∷ text
unfolding strip_bom
no_mark first [] e = refl
no_mark first (b ∷ []) e = refl
no_mark first (b ∷ c ∷ rest) e = rw e refl
