-- An input that is read on while its faults are told.
use Rattle.std.proofs.Common.{◌≡◌, ◌≤◌, ◌+◌, ◌++◌, ◌∷◌, ◌∙◌, [], ℕ, List, Bool, true, false, ap, append_assoc, drop, length, inl, inr, refl, arith}
use Rattle.std.specs.Prelude.{if◌then◌else◌}
use Rattle.std.proofs.lemmas.List.{append-nil, length-append}
use Rattle.csv_table.specs.ReadOn.{ReadsOn, ReadsTable}
use Rattle.csv_table.specs.ReadOn.ReadsOn.{here, read, left_out, stopped}
use Rattle.csv_table.specs.Table.{rows_of}
use Rattle.csv_table.proofs.ReadingOn.{and_on}
use Rattle.csv_table.proofs.RowCounts.{rows_count}
use Rattle.check_inputs.specs.Report.{fault_lines, more_line}
use Rattle.check_inputs.specs.SoFar.{IsTold}
use Rattle.check_inputs.proofs.Telling.{told_whole}

-- no more are left out than there are
pub out_few : {S R F : Type 0} {Reads : S → R → S → Type 0} {Refuses : S → ℕ → R → F → Type 0} {Stops : S → R → F → Type 0} {state last : S} {number end : ℕ} {rows left : List R} {out : List (R × F)}
    → ReadsOn Reads Refuses Stops state number rows out last end left → length out + length left ≤ length rows
out_few (here _ _ _) = omega arith
out_few (read _ _ _ _ _ _ _ _ _ step on) = omega (arith, out_few on)
out_few (left_out _ _ _ _ _ _ _ _ _ step on) = omega (arith, out_few on)
out_few (stopped _ _ _ _ _ step) = omega arith

-- a first row that is not the header is a fault of its own
abbrev pub of_header : {R F : Type 0} → Bool → List R × F → List (List R × F)
of_header is_headed e = if is_headed then [] else e ∷ []

-- From the first of the rows to those that are left, these faults were found and told, behind that of the header.
pub record Goes {S R F : Type 0} (Reads : S → R → S → Type 0) (Refuses : S → ℕ → R → F → Type 0) (Stops : S → R → F → Type 0) (line : R × F → List ℕ)
    (first : S) (rows : List R) (head : List (R × F)) (text : List ℕ) (count : ℕ) (state : S) (number : ℕ) (left : List R) : Type 0 where
  pub below : List (R × F)
  pub way : ReadsOn Reads Refuses Stops first 1 rows below state number left
  pub told : IsTold line text count (head ++ below)

pub goes_start : {S R F : Type 0} {Reads : S → R → S → Type 0} {Refuses : S → ℕ → R → F → Type 0} {Stops : S → R → F → Type 0} {line : R × F → List ℕ}
    {first state : S} {rows left : List R} {head : List (R × F)} {text : List ℕ} {count number : ℕ}
    → IsTold line text count head → (state ≡ first) × (number ≡ 1) × (left ≡ rows) → Goes Reads Refuses Stops line first rows head text count state number left
goes_start {head = head} told (same, one, all) = rw (same, one, all) record { below = []; way = here _ 1 _; told = rw (append-nil head) told }

-- and one fault more
pub goes_on : {S R F : Type 0} {Reads : S → R → S → Type 0} {Refuses : S → ℕ → R → F → Type 0} {Stops : S → R → F → Type 0} {line : R × F → List ℕ}
    {first state next : S} {rows left rest : List R} {head : List (R × F)} {text more : List ℕ} {count counted number at : ℕ} {e : R × F}
    → Goes Reads Refuses Stops line first rows head text count state number left → ReadsOn Reads Refuses Stops state number left (e ∷ []) next at rest
    → ((faults : List (R × F)) → IsTold line text count faults → IsTold line more counted (faults ++ e ∷ []))
    → Goes Reads Refuses Stops line first rows head more counted next at rest
goes_on {head = head} {e = e} goes on tells = record {
  below = goes.below ++ e ∷ [];
  way = and_on _ _ _ _ _ _ 1 _ _ _ _ _ goes.below (e ∷ []) goes.way on;
  told = rw⁻¹ (append_assoc head goes.below (e ∷ [])) (tells (head ++ goes.below) goes.told);
}

-- the faults are no more than the rows, and that of the header
pub goes_few : {S R F : Type 0} {Reads : S → R → S → Type 0} {Refuses : S → ℕ → R → F → Type 0} {Stops : S → R → F → Type 0} {line : R × F → List ℕ}
    {first state : S} {rows left : List R} {head : List (R × F)} {text : List ℕ} {count number : ℕ}
    → Goes Reads Refuses Stops line first rows head text count state number left → count + length left ≤ length head + length rows
goes_few {head = head} goes = omega (arith, goes.told.all, length-append head goes.below, out_few goes.way)

-- all is read where nothing is left
pub goes_whole : {S R F : Type 0} {Reads : S → R → S → Type 0} {Refuses : S → ℕ → R → F → Type 0} {Stops : S → R → F → Type 0} {line : R × F → List ℕ}
    {first state next : S} {rows left rest : List R} {head : List (R × F)} {text : List ℕ} {count number at : ℕ}
    → Goes Reads Refuses Stops line first rows head text count state number left → ReadsOn Reads Refuses Stops state number left [] next at rest → rest ≡ []
    → Goes Reads Refuses Stops line first rows head text count next at []
goes_whole goes on none = record {
  below = goes.below;
  way = rw (append-nil goes.below) at (and_on _ _ _ _ _ _ 1 _ _ _ _ _ goes.below [] goes.way (rw none at on));
  told = goes.told;
}

-- which is how a table is read
table_read : {S F : Type 0} {Reads : S → List (List ℕ) → S → Type 0} {Refuses : S → ℕ → List (List ℕ) → F → Type 0} {Stops : S → List (List ℕ) → F → Type 0} {line : List (List ℕ) × F → List ℕ}
    {header : List (List ℕ)} {headless : F} {first state : S} {rows below : List (List (List ℕ))} (is_headed : Bool) {text : List ℕ} {count at : ℕ}
    → Goes Reads Refuses Stops line first (drop 1 rows) (of_header is_headed ([], headless)) text count state at []
    → (is_headed ≡ true → rows ≡ header ∷ below) → (is_headed ≡ false → (rest : List (List (List ℕ))) → ¬ (rows ≡ header ∷ rest))
    → (out : List (List (List ℕ) × F)) × ReadsTable Reads Refuses Stops header headless first rows out state × IsTold line text count out
table_read true goes headed no_header = (
  goes.below,
  record { below = goes.below; headed = inl (_, headed refl, refl); end = _; read = goes.way },
  goes.told,
)
table_read {headless = headless} false goes headed no_header = (
  ([], headless) ∷ goes.below,
  record { below = goes.below; headed = inr (no_header refl, refl); end = _; read = goes.way },
  goes.told,
)

-- and all its faults are told
pub table_told : {S F : Type 0} {Reads : S → List (List ℕ) → S → Type 0} {Refuses : S → ℕ → List (List ℕ) → F → Type 0} {Stops : S → List (List ℕ) → F → Type 0} {line : List (List ℕ) × F → List ℕ}
    {header : List (List ℕ)} {headless : F} {first state last : S} {rows left rest below : List (List (List ℕ))} {is_headed : Bool} (path : List ℕ) {text whole : List ℕ} {count counted number at : ℕ}
    → Goes Reads Refuses Stops line first (drop 1 rows) (of_header is_headed ([], headless)) text count state number left
    → ReadsOn Reads Refuses Stops state number left [] last at rest × (rest ≡ [])
    → (is_headed ≡ true → rows ≡ header ∷ below) → (is_headed ≡ false → (rest : List (List (List ℕ))) → ¬ (rows ≡ header ∷ rest))
    → whole ≡ text ++ more_line path count → counted ≡ count
    → (out : List (List (List ℕ) × F)) × ReadsTable Reads Refuses Stops header headless first rows out last × (whole ≡ fault_lines line path out) × (counted ≡ length out)
table_told {line = line} {is_headed = is_headed} path {text} {whole} {count} goes (on, none) headed no_header wrote same =
    let (out, is_read, told) = table_read is_headed (goes_whole goes on none) headed no_header in (
      out,
      is_read,
      told_whole line path text whole count out told wrote,
      same ∙ told.all,
    )

-- the faults of a table are no more than its rows
pub table_few : {S F : Type 0} {Reads : S → List (List ℕ) → S → Type 0} {Refuses : S → ℕ → List (List ℕ) → F → Type 0} {Stops : S → List (List ℕ) → F → Type 0} {line : List (List ℕ) × F → List ℕ}
    {first state : S} {left : List (List (List ℕ))} {text : List ℕ} {count number : ℕ} (bytes : List ℕ) (is_headed : Bool) (e : List (List ℕ) × F)
    → Goes Reads Refuses Stops line first (drop 1 (rows_of bytes)) (of_header is_headed e) text count state number left → count ≤ length bytes + 1
table_few bytes is_headed e goes = omega (arith, goes_few goes, head_few is_headed e, below_few (rows_of bytes) (rows_count bytes))
  where
    below_few : (rows : List (List (List ℕ))) → length rows ≤ length bytes + 1 → length (drop 1 rows) ≤ length bytes
    below_few [] few = omega arith
    below_few (row ∷ rows) few = omega (arith, few)

    head_few : {R F : Type 0} (is_headed : Bool) (e : List R × F) → length (of_header is_headed e) ≤ 1
    head_few true e = omega arith
    head_few false e = omega arith

-- before the first fault
pub none_told : {X : Type 0} (line : X → List ℕ) {text : List ℕ} {count : ℕ} → (text ≡ []) × (count ≡ 0) → IsTold line text count []
none_told line (none, zero') = record { lines = none; all = zero' }

-- that of a header, in whose words no field stands
pub headless_told : {R F : Type 0} {line : List R × F → List ℕ} {is_headed : Bool} {e other : List R × F} {text : List ℕ} {count : ℕ} → is_headed ≡ false
    → IsTold line text count ([] ++ e ∷ []) → line e ≡ line other → IsTold line text count (of_header is_headed other)
headless_told is told same = rw is record { lines = told.lines ∙ ap (λ (l : List ℕ). l ++ []) same; all = told.all }

pub headed_told : {R F : Type 0} {line : List R × F → List ℕ} {is_headed : Bool} (other : List R × F) {text : List ℕ} {count : ℕ} → is_headed ≡ true
    → IsTold line text count [] → IsTold line text count (of_header is_headed other)
headed_told other is told = rw is told
