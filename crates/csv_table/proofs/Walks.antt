-- How the rows that are left go down by one.
use Rattle.std.proofs.Common.{◌≡◌, ◌<◌, ◌≤◌, ◌+◌, ℕ, zero, suc, List, [], ◌∷◌, ◌++◌, length, Option, Some, None, Bool, true, false, refl, subst, sym, ap, ◌∙◌, arith}
use Rattle.std.specs.Prelude.{◌==◌, ◌||◌, ◌&&◌, not, take, drop, option_map, if◌then◌else◌}
use Rattle.std.specs.Borrow.{Bor}
use Rattle.csv.specs.Machine.{Read, ends_at_end, field_after, fields_after, in_field, is_end, next_record, start_record, step}
use Rattle.csv.proofs.ReadFacts.{rows-end, rows-more}
use Rattle.csv.specs.Reading.{ReadRecord, Reached, buffered_of, default_config, has_failed, reader_config, reader_state, records, records_from, records_next, source_of, strip_bom}
use Rattle.csv.specs.declared.reader.Reader.{Reader}
use Rattle.csv_table.specs.Walk.{in_memory, rows_from, rows_left}
use Rattle.csv.specs.declared.parser.Action.{Action}
use Rattle.csv.specs.declared.parser.Action.TheVariants as act
use Rattle.csv.specs.declared.parser.State.{State}
use Rattle.csv.specs.declared.parser.State.TheVariants as st

-- a step that ends a row leaves no row begun
abbrev Rests : State × Action → Type 0
Rests to = is_end to.1 ≡ true → ends_at_end to.0 ≡ false

rests_if : (b : Bool) (one other : State × Action) → Rests one → Rests other → Rests (if b then one else other)
rests_if true one other r q = r
rests_if false one other r q = q

after_rests : (c : ℕ) → Rests (if c == 13 then st.AfterCr else st.StartRecord, act.EndRecord)
after_rests c = by (c == 13)
  where
    by : (b : Bool) → Rests (if b then st.AfterCr else st.StartRecord, act.EndRecord)
    by true e = refl
    by false e = refl

field_rests : (c : ℕ) → Rests (in_field default_config c)
field_rests c = rests_if (c == 44) _ _ (λ e. cc e) (rests_if ((c == 13) || (c == 10)) _ _ (after_rests c) (λ e. cc e))

start_rests : (c : ℕ) → Rests (start_record default_config c)
start_rests c = rests_if ((c == 13) || (c == 10)) _ _ (λ e. cc e) (rests_if (c == 34) _ _ (λ e. cc e) (field_rests c))

step_rests : (s : State) (c : ℕ) → Rests (step default_config s c)
step_rests st.StartRecord c = start_rests c
step_rests st.StartField c = rests_if (c == 34) _ _ (λ e. cc e) (field_rests c)
step_rests st.InField c = field_rests c
step_rests st.InQuoted c = rests_if (c == 34) _ _ (λ e. cc e) (λ e. cc e)
step_rests st.InEscape c = λ e. cc e
step_rests st.AfterQuote c = rests_if (c == 34) _ _ (λ e. cc e) (field_rests c)
step_rests st.InComment c = rests_if (c == 10) _ _ (λ e. cc e) (λ e. cc e)
step_rests st.AfterCr c = rests_if (c == 10) _ _ (λ e. cc e) (start_rests c)

-- a row takes at least one byte of a text, and leaves no row begun
abbrev GoesDown : ℕ → Read → Type 0
GoesDown size p = (length p.2 < size) × (ends_at_end p.1 ≡ false)

-- at the end of the text
at_end : (s : State) (e : Bool) (fields : List (List ℕ)) (field : List ℕ) (size : ℕ) (p : Read) → ends_at_end s ≡ e
    → next_record default_config s fields field [] ≡ Some p → GoesDown (suc size) p
unfolding next_record
at_end s true fields field size p e is =
    let same : ◌≡◌ {A = Read} (fields ++ (field ∷ []), st.StartRecord, []) p = cc (rw e at is) in
    subst (λ (q : Read). GoesDown (suc size) q) same (omega arith, refl)
at_end s false fields field size p e is = cc (rw e at is)

-- by whether the first byte ends a row
by_byte : (s : State) (b : Bool) (fields : List (List ℕ)) (field : List ℕ) (c : ℕ) (rest : List ℕ) (p : Read) → is_end (step default_config s c).1 ≡ b
    → next_record default_config s fields field (c ∷ rest) ≡ Some p
    → (next_record default_config (step default_config s c).0 (fields_after (step default_config s c).1 fields field) (field_after (step default_config s c).1 c field) rest ≡ Some p → GoesDown (suc (length rest)) p)
    → GoesDown (suc (length rest)) p
unfolding next_record
by_byte s true fields field c rest p e is more =
    let same : ◌≡◌ {A = Read} (fields_after (step default_config s c).1 fields field, (step default_config s c).0, rest) p = cc (rw e at is) in
    subst (λ (q : Read). GoesDown (suc (length rest)) q) same (omega arith, step_rests s c e)
by_byte s false fields field c rest p e is more = more (rw e at is)

pub goes_down : (s : State) (fields : List (List ℕ)) (field : List ℕ) (c : ℕ) (rest : List ℕ) (p : Read)
    → next_record default_config s fields field (c ∷ rest) ≡ Some p → GoesDown (suc (length rest)) p
goes_down s fields field c [] p is =
    by_byte s (is_end (step default_config s c).1) fields field c [] p refl is (at_end (step default_config s c).0 (ends_at_end (step default_config s c).0) _ _ 0 p refl)
goes_down s fields field c (d ∷ rest) p is =
    by_byte s (is_end (step default_config s c).1) fields field c (d ∷ rest) p refl is (λ h.
    let down = goes_down (step default_config s c).0 (fields_after (step default_config s c).1 fields field) (field_after (step default_config s c).1 c field) d rest p h in
    (omega (arith, down.0), down.1))

-- a row that is begun at the end of the text is a row too
abbrev owed : State → ℕ
owed s = if ends_at_end s then 1 else 0

pub ends : (k : ℕ) → records_from default_config k st.StartRecord [] ≡ []
unfolding records_from next_record
ends zero = refl
ends (suc k) = refl

at_the_end : (n m : ℕ) (s : State) (e : Bool) → ends_at_end s ≡ e → 0 < n → 0 < m → records_from default_config n s [] ≡ records_from default_config m s []
unfolding records_from next_record
at_the_end zero m s e is a b = absurd (omega (arith, a))
at_the_end (suc n) zero s e is a b = absurd (omega (arith, b))
at_the_end (suc n) (suc m) s true is a b = rw (is, ends n, ends m) refl
at_the_end (suc n) (suc m) s false is a b = rw is refl

-- with turns enough, how many makes no difference
pub steady : (n m : ℕ) (s : State) (text : List ℕ) → length text + owed s < n → length text + owed s < m
    → records_from default_config n s text ≡ records_from default_config m s text
unfolding records_from
steady zero m s text a b = absurd (omega (arith, a))
steady (suc n) zero s text a b = absurd (omega (arith, b))
steady (suc n) (suc m) s [] a b = at_the_end (suc n) (suc m) s (ends_at_end s) refl (omega arith) (omega arith)
steady (suc n) (suc m) s (c ∷ rest) a b = by (next_record default_config s [] [] (c ∷ rest)) refl (λ p is.
    let down = goes_down s [] [] c rest p is in
    let none : owed p.1 ≡ 0 = rw down.1 refl in
    steady n m p.1 p.2 (omega (arith, a, down.0, none)) (omega (arith, b, down.0, none)))
  where
    by : (o : Option Read) → next_record default_config s [] [] (c ∷ rest) ≡ o
        → ((p : Read) → next_record default_config s [] [] (c ∷ rest) ≡ Some p → records_from default_config n p.1 p.2 ≡ records_from default_config m p.1 p.2)
        → records_next (records_from default_config n) o ≡ records_next (records_from default_config m) o
    by None is more = refl
    by (Some p) is more = ap (λ (l : List (List (List ℕ))). p.0 ∷ l) (more p is)

few : (s : State) → owed s ≤ 1
few s = by (ends_at_end s)
  where
    by : (e : Bool) → (if e then 1 else 0) ≤ 1
    by true = omega arith
    by false = omega arith

turn : (n : ℕ) (s : State) (text : List ℕ) (o : Option Read) → next_record default_config s [] [] text ≡ o
    → records_from default_config (n + 2) s text ≡ records_next (records_from default_config (n + 1)) o
unfolding records_from
turn n s text o is =
    let one : n + 2 ≡ suc (n + 1) = omega arith in
    rw (one, is) refl

goes : (s : State) (text : List ℕ) (p : Read) → next_record default_config s [] [] text ≡ Some p → length p.2 + owed p.1 < length text + 1
goes s [] p is =
    let down = at_end s (ends_at_end s) [] [] 0 p refl is in
    let none : owed p.1 ≡ 0 = rw down.1 refl in
    omega (arith, down.0, none)
goes s (c ∷ rest) p is =
    let down = goes_down s [] [] c rest p is in
    let none : owed p.1 ≡ 0 = rw down.1 refl in
    omega (arith, down.0, none)

-- a row, and those after it
pub row_and_left : (s : State) (text : List ℕ) (p : Read) → next_record default_config s [] [] text ≡ Some p
    → rows_from s (Some text) ≡ p.0 ∷ rows_from p.1 (Some p.2)
row_and_left s text p is =
    turn (length text) s text (Some p) is
    ∙ ap (λ (l : List (List (List ℕ))). p.0 ∷ l) (steady (length text + 1) (length p.2 + 2) p.1 p.2 (goes s text p is) (omega (arith, few p.1)))

-- no row, and none after it
pub none_left : (s : State) (text : List ℕ) → next_record default_config s [] [] text ≡ None → rows_from s (Some text) ≡ []
none_left s text is = turn (length text) s text None is

-- all rows
pub all_left : (text : List ℕ) → rows_from st.StartRecord (Some text) ≡ records default_config text
all_left text = steady (length text + 2) (length text + 1) st.StartRecord text (omega arith) (omega arith)

-- the bytes that are left of a text in memory, which are known while the reader has not failed
known : (a : Reader (Bor (List ℕ))) → has_failed a ≡ false → (left : List ℕ) × (source_of in_memory a ≡ Some left)
known a going = rw going (by (not a.bom_checked && (a.at == 0) && (a.filled == 0)))
  where
    by : (fresh : Bool) → (left : List ℕ) × ((if fresh then option_map strip_bom (in_memory a.rdr) else buffered_of (in_memory a.rdr) a) ≡ Some left)
    by true = (strip_bom a.rdr.now, refl)
    by false = (drop a.at (take a.filled a.buffer) ++ a.rdr.now, refl)

-- a read that found a row
pub reads_row : (a b : Reader (Bor (List ℕ))) (row : List (List ℕ)) → reader_config a ≡ default_config → has_failed a ≡ false
    → ReadRecord in_memory a b true row → rows_left a ≡ row ∷ rows_left b
unfolding Reached
reads_row a b row config going read =
    let (left, is) = known a going in
    let (after, is_after, reached) = rows-more in_memory a b row default_config (reader_state a) left left [] config is (refl, refl) read in
    let (p, found, same, ends_at) = reached in
    ap (rows_from (reader_state a)) is
    ∙ (row_and_left (reader_state a) left p found
    ∙ (ap (λ (r : List (List ℕ)). r ∷ rows_from p.1 (Some p.2)) (sym same)
    ∙ ap (λ (l : List (List (List ℕ))). row ∷ l) (rw (ends_at.0, ends_at.1, is_after) refl)))

-- a read that found none
pub reads_none : (a b : Reader (Bor (List ℕ))) (row : List (List ℕ)) → reader_config a ≡ default_config → has_failed a ≡ false
    → ReadRecord in_memory a b false row → rows_left a ≡ []
reads_none a b row config going read =
    let (left, is) = known a going in
    ap (rows_from (reader_state a)) is ∙ none_left (reader_state a) left (rows-end in_memory a b row default_config left config is read)

-- a reader that has failed gives no rows
pub failed_none : (a : Reader (Bor (List ℕ))) → has_failed a ≡ true → rows_left a ≡ []
failed_none a failed = rw failed refl
