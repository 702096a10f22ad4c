-- Rows in memory are read back, and those under a name are counted.
use Rattle.std.proofs.Common.{◌≡◌, ◌∙◌, ◌+◌, ◌≤◌, ◌+ℤ◌, ◌++◌, ◌∷◌, [], ℕ, ℤ, pos, unsigned_abs, Bool, true, false, List, Option, Some, None, All, length, map, ap, refl, sym, subst, arith, append_assoc, inl, inr}
use Rattle.std.specs.Prelude.{filter, if◌then◌else◌, neg_ℤ, slice_index_or}
use Rattle.std.specs.Fmt.{signed_decimal}
use Rattle.std.specs.Io.KnownBytes.{Consumes, IsAtEnd}
use Rattle.std.specs.List.{list_any}
use Rattle.std.specs.List.Sorted.{IsStrictlySortedBy}
use Rattle.std.specs.Str.{bytes_eq}
use Rattle.std.proofs.lemmas.Int.{ints}
use Rattle.std.proofs.lemmas.List.{length-append}
use Rattle.std.proofs.lemmas.Slice.Eq.{bytes_eq-Decides}
use Rattle.std.proofs.lemmas.List.Elements.{All-head, All-nil, All-tail}
use Rattle.csv.specs.Writing.{default_writer, row_body}
use Rattle.csv_table.specs.Written.{text_of, text_of_row}
use Rattle.line_split.proofs.IntSums.{int_sum_by-cons, plus_none}
use Rattle.merge_statements.specs.Buffered.{is_feed}
use Rattle.merge_statements.specs.SoFar.{order, total_of_portions}
use Rattle.merge_statements.specs.Statements.{IsAmount, IsName, Portion, Rest}
use Rattle.merge_statements.proofs.Chains.{IsLineOf, IsPiece, amount_field, name_piece, row_line, same_amount, same_row}
use Rattle.merge_statements.proofs.ReadThrough.{one_line}
use Rattle.adjust_statements.specs.Adjusted.{rests_for}
use Rattle.adjust_statements.specs.Differences.{sum_of}
use Rattle.adjust_statements.specs.SoFar.{AreSums, IsKindOfPortion, IsNamed, IsTextOf, named_row, signed_by, with_row, with_rows, with_sum}
use Rattle.adjust_statements.proofs.DifferenceLemmas.{count_of_rows, with_sum_few}
use Rattle.adjust_statements.proofs.SumLemmas.{part, sum_of-cons, the_sum, uses_of, with_sum_at, with_sum_named, with_sum_rises, with_sum_total}

-- ---- a row is one line

pub named_line : (kind : List ℕ) (row : Rest) → IsKindOfPortion kind → IsNamed row → IsLineOf (named_row kind row) (row_body default_writer (named_row kind row))
named_line kind row of named =
    row_line kind row.reason row.usage (signed_decimal row.amount) (letter of) (name_piece row.reason named.0) (name_piece row.usage named.1)
    (amount_field row.amount (signed_decimal row.amount) (omega (arith, named.2.1)) refl)
  where
    letter : IsKindOfPortion kind → IsPiece 100 kind
    letter (inl l) = subst (IsPiece 100) (sym l) (record { none = refl; short = omega arith })
    letter (inr m) = subst (IsPiece 100) (sym m) (record { none = refl; short = omega arith })

-- ---- amounts with a sign

pub signed_none : (is_paid : Bool) → signed_by is_paid (pos 0) ≡ pos 0
signed_none true = refl
signed_none false = refl

pub signed_adds : (is_paid : Bool) (a b : ℤ) → signed_by is_paid (a +ℤ b) ≡ signed_by is_paid a +ℤ signed_by is_paid b
signed_adds true a b = omega (arith, ints)
signed_adds false a b = refl

pub signed_size : (is_paid : Bool) (amount : ℤ) → unsigned_abs (signed_by is_paid amount) ≡ unsigned_abs amount
signed_size true amount = omega (arith, ints)
signed_size false amount = refl

-- ---- one row counted

abbrev as_portion : Rest → Portion
as_portion row = record { usage = row.usage; amount = row.amount }

-- what holds where a row is counted, and where not
module _ (is_paid : Bool) (name : List ℕ) where
  signed_part : (sought : List ℕ) (row : Rest) → part sought (the_sum row.usage (signed_by is_paid row.amount)) ≡ signed_by is_paid (part sought (as_portion row))
  signed_part sought row = by (bytes_eq row.usage sought)
    where
      by : (told : Bool) → (if told then signed_by is_paid row.amount else pos 0) ≡ signed_by is_paid (if told then row.amount else pos 0)
      by true = refl
      by false = sym (signed_none is_paid)

  -- of all rows each use comes to what its portions under the name come to
  pub rows_at : (sought : List ℕ) (rows : List Rest) (sums : List Portion)
      → sum_of sought (with_rows is_paid name rows sums) ≡ sum_of sought sums +ℤ signed_by is_paid (sum_of sought (rests_for name rows))
  rows_at sought [] sums = sym (ap (λ (z : ℤ). sum_of sought sums +ℤ z) (signed_none is_paid) ∙ plus_none (sum_of sought sums))
  rows_at sought (row ∷ rows) sums = rows_at sought rows (with_row is_paid name row sums) ∙ on (bytes_eq row.reason name)
    where
      rest : ℤ
      rest = sum_of sought (rests_for name rows)

      joined : (a b c : ℤ) → (a +ℤ b) +ℤ c ≡ a +ℤ (b +ℤ c)
      joined a b c = omega (arith, ints)

      on : (told : Bool)
          → sum_of sought (if told then with_sum row.usage (signed_by is_paid row.amount) sums else sums) +ℤ signed_by is_paid rest
          ≡ sum_of sought sums +ℤ signed_by is_paid (sum_of sought (map as_portion (if told then row ∷ filter (λ r. bytes_eq r.reason name) rows else filter (λ r. bytes_eq r.reason name) rows)))
      on true =
          (λ i. (with_sum_at row.usage (signed_by is_paid row.amount) sought sums ∙ ap (λ (z : ℤ). sum_of sought sums +ℤ z) (signed_part sought row)) i +ℤ signed_by is_paid rest)
          ∙ joined (sum_of sought sums) (signed_by is_paid (part sought (as_portion row))) (signed_by is_paid rest)
          ∙ ap (λ (z : ℤ). sum_of sought sums +ℤ z) (sym (signed_adds is_paid (part sought (as_portion row)) rest) ∙ ap (signed_by is_paid) (sym (sum_of-cons sought (as_portion row) (rests_for name rows))))
      on false = refl

  pub rows_total_at : (rows : List Rest) (sums : List Portion)
      → total_of_portions (with_rows is_paid name rows sums) ≡ total_of_portions sums +ℤ signed_by is_paid (total_of_portions (rests_for name rows))
  rows_total_at [] sums = sym (ap (λ (z : ℤ). total_of_portions sums +ℤ z) (signed_none is_paid) ∙ plus_none (total_of_portions sums))
  rows_total_at (row ∷ rows) sums = rows_total_at rows (with_row is_paid name row sums) ∙ on (bytes_eq row.reason name)
    where
      rest : ℤ
      rest = total_of_portions (rests_for name rows)

      joined : (a b c : ℤ) → (a +ℤ b) +ℤ c ≡ a +ℤ (b +ℤ c)
      joined a b c = omega (arith, ints)

      on : (told : Bool)
          → total_of_portions (if told then with_sum row.usage (signed_by is_paid row.amount) sums else sums) +ℤ signed_by is_paid rest
          ≡ total_of_portions sums +ℤ signed_by is_paid (total_of_portions (map as_portion (if told then row ∷ filter (λ r. bytes_eq r.reason name) rows else filter (λ r. bytes_eq r.reason name) rows)))
      on true =
          (λ i. with_sum_total row.usage (signed_by is_paid row.amount) sums i +ℤ signed_by is_paid rest)
          ∙ joined (total_of_portions sums) (signed_by is_paid row.amount) (signed_by is_paid rest)
          ∙ ap (λ (z : ℤ). total_of_portions sums +ℤ z) (sym (signed_adds is_paid row.amount rest)
          ∙ ap (signed_by is_paid) (sym (int_sum_by-cons (λ (p : Portion). p.amount) (as_portion row) (rests_for name rows))))
      on false = refl

  -- each takes one row more at most
  pub rows_few : (rows : List Rest) (sums : List Portion) → All IsNamed rows → count_of_rows (with_rows is_paid name rows sums) ≤ count_of_rows sums + length (rests_for name rows)
  rows_few [] sums named = omega arith
  rows_few (row ∷ rows) sums named = on (bytes_eq row.reason name) (λ (l : List Portion). rows_few rows l (All-tail IsNamed row rows named))
    where
      is : IsNamed row
      is = All-head IsNamed row rows named

      on : (told : Bool) → ((l : List Portion) → count_of_rows (with_rows is_paid name rows l) ≤ count_of_rows l + length (rests_for name rows))
          → count_of_rows (with_rows is_paid name rows (if told then with_sum row.usage (signed_by is_paid row.amount) sums else sums))
          ≤ count_of_rows sums + length (map as_portion (if told then row ∷ filter (λ r. bytes_eq r.reason name) rows else filter (λ r. bytes_eq r.reason name) rows))
      on true later =
          omega (
            arith,
            later (with_sum row.usage (signed_by is_paid row.amount) sums),
            with_sum_few row.usage (signed_by is_paid row.amount) sums (omega (arith, signed_size is_paid row.amount, is.2.1)),
          )
      on false later = later sums

  -- and they stay in order, and have names
  pub rows_rise : (rows : List Rest) (sums : List Portion) → IsStrictlySortedBy order (uses_of sums) → IsStrictlySortedBy order (uses_of (with_rows is_paid name rows sums))
  rows_rise [] sums rising = rising
  rows_rise (row ∷ rows) sums rising = rows_rise rows (with_row is_paid name row sums) (on (bytes_eq row.reason name))
    where
      on : (told : Bool) → IsStrictlySortedBy order (uses_of (if told then with_sum row.usage (signed_by is_paid row.amount) sums else sums))
      on true = with_sum_rises row.usage (signed_by is_paid row.amount) sums rising
      on false = rising

  pub rows_named : (rows : List Rest) (sums : List Portion) → All IsNamed rows → All (λ p. IsName p.usage) sums → All (λ p. IsName p.usage) (with_rows is_paid name rows sums)
  rows_named [] sums named are = are
  rows_named (row ∷ rows) sums named are = rows_named rows (with_row is_paid name row sums) (All-tail IsNamed row rows named) (on (bytes_eq row.reason name))
    where
      on : (told : Bool) → All (λ p. IsName p.usage) (if told then with_sum row.usage (signed_by is_paid row.amount) sums else sums)
      on true = with_sum_named row.usage (signed_by is_paid row.amount) sums (All-head IsNamed row rows named).1 are
      on false = are

-- ---- both texts

taken_off : (a b : ℤ) → a +ℤ ((pos 0 +ℤ neg_ℤ a) +ℤ b) ≡ b
taken_off a b = omega (arith, ints)

pub sums_are : (name : List ℕ) (paid right : List Rest) → All IsNamed paid → All IsNamed right
    → AreSums (rests_for name paid) (rests_for name right) (with_rows false name right (with_rows true name paid []))
unfolding IsStrictlySortedBy
sums_are name paid right paid_named right_named =
    let first = with_rows true name paid [] in
    record {
      rising = rows_rise false name right first (rows_rise true name paid [] tt);
      each = λ usage.
          ap (λ (z : ℤ). sum_of usage (rests_for name paid) +ℤ z) (rows_at false name usage right first ∙ (λ i. rows_at true name usage paid [] i +ℤ sum_of usage (rests_for name right)))
          ∙ taken_off (sum_of usage (rests_for name paid)) (sum_of usage (rests_for name right));
      named = rows_named false name right first right_named (rows_named true name paid [] paid_named (All-nil (λ (p : Portion). IsName p.usage)));
      total =
          ap (λ (z : ℤ). total_of_portions (rests_for name paid) +ℤ z) (rows_total_at false name right first ∙ (λ i. rows_total_at true name paid [] i +ℤ total_of_portions (rests_for name right)))
          ∙ taken_off (total_of_portions (rests_for name paid)) (total_of_portions (rests_for name right));
      few = omega (arith, rows_few false name right first right_named, rows_few true name paid [] paid_named);
    }

-- ---- a row that was read

-- its fields are those that were written, and the rest comes next
pub record IsNextRow (fields : List (List ℕ)) (left : Option (List ℕ)) (row : List (List ℕ)) (more : List ℕ) : Type 0 where
  pub same : fields ≡ row
  pub rest : left ≡ Some more

pub next_row : (kind : List ℕ) (row : Rest) (more line a b c d : List ℕ) (old new : Option (List ℕ)) → old ≡ Some (text_of_row (named_row kind row) ++ more)
    → Consumes old new (line ++ 10 ∷ []) → text_of_row (a ∷ b ∷ c ∷ d ∷ []) ≡ line ++ 10 ∷ [] → IsNextRow (a ∷ b ∷ c ∷ d ∷ []) new (named_row kind row) more
next_row kind row more line a b c d old new is consumes fields = by new (subst (λ (known : Option (List ℕ)). Consumes known new (line ++ 10 ∷ [])) is consumes)
  where
    by : (new : Option (List ℕ)) → Consumes (Some (text_of_row (named_row kind row) ++ more)) new (line ++ 10 ∷ []) → IsNextRow (a ∷ b ∷ c ∷ d ∷ []) new (named_row kind row) more
    by None bad = absurd bad
    by (Some rest) same =
        let both = same_row (a ∷ b ∷ c ∷ d ∷ []) (named_row kind row) rest more ((λ i. fields i ++ rest) ∙ sym same) in
        record { same = both.0; rest = ap Some both.1 }

-- no row is missing where one was written
pub no_end : (kind : List ℕ) (row : Rest) (more : List ℕ) (old : Option (List ℕ)) → old ≡ Some (text_of_row (named_row kind row) ++ more) → IsKindOfPortion kind → IsNamed row → IsAtEnd old → ⊥
no_end kind row more old is of named ended =
    let line = named_line kind row of named in
    let none : text_of_row (named_row kind row) ++ more ≡ [] = subst IsAtEnd is ended in
    omega (arith, ap length none, length-append (text_of_row (named_row kind row)) more, ap length line.bytes, length-append (row_body default_writer (named_row kind row)) (10 ∷ []))

pub row_there : (kind : List ℕ) (row : Rest) (more line : List ℕ) (old new : Option (List ℕ)) → old ≡ Some (text_of_row (named_row kind row) ++ more) → IsKindOfPortion kind → IsNamed row
    → Consumes old new (line ++ 10 ∷ []) → list_any is_feed line ≡ false → text_of_row (named_row kind row) ≡ line ++ 10 ∷ []
row_there kind row more line old new is of named consumes one = by new (subst (λ (known : Option (List ℕ)). Consumes known new (line ++ 10 ∷ [])) is consumes)
  where
    body : List ℕ
    body = row_body default_writer (named_row kind row)

    its : IsLineOf (named_row kind row) body
    its = named_line kind row of named

    by : (new : Option (List ℕ)) → Consumes (Some (text_of_row (named_row kind row) ++ more)) new (line ++ 10 ∷ []) → text_of_row (named_row kind row) ≡ line ++ 10 ∷ []
    by None bad = absurd bad
    by (Some rest) same =
        let lines : body ++ 10 ∷ more ≡ line ++ 10 ∷ rest = sym (append_assoc body (10 ∷ []) more) ∙ (λ i. sym its.bytes i ++ more) ∙ same ∙ append_assoc line (10 ∷ []) rest in
        its.bytes ∙ ap (λ (l : List ℕ). l ++ 10 ∷ []) (one_line body line more rest its.none one lines)

pub nothing_read : (old new : Option (List ℕ)) (line : List ℕ) → old ≡ Some [] → Consumes old new (line ++ 10 ∷ []) → ⊥
nothing_read old new line is consumes = by new (subst (λ (known : Option (List ℕ)). Consumes known new (line ++ 10 ∷ [])) is consumes)
  where
    by : (new : Option (List ℕ)) → Consumes (Some []) new (line ++ 10 ∷ []) → ⊥
    by None bad = bad
    by (Some rest) same = omega (arith, ap length same, length-append (line ++ 10 ∷ []) rest, length-append line (10 ∷ []))

-- a row under the name is counted
pub row_counted : (is_paid : Bool) (name kind letter reason usage field : List ℕ) (of : Rest) (amount : ℤ) (sums new : List Portion)
    → letter ∷ reason ∷ usage ∷ field ∷ [] ≡ named_row kind of → IsNamed of → reason ≡ name → IsAmount amount → field ≡ signed_decimal amount
    → new ≡ with_sum usage (signed_by is_paid amount) sums → new ≡ with_row is_paid name of sums
row_counted is_paid name kind letter reason usage field of amount sums new fields named own sound written is =
    let its : reason ≡ of.reason = ap (λ (l : List (List ℕ)). slice_index_or l 1 []) fields in
    let used : usage ≡ of.usage = ap (λ (l : List (List ℕ)). slice_index_or l 2 []) fields in
    let text : field ≡ signed_decimal of.amount = ap (λ (l : List (List ℕ)). slice_index_or l 3 []) fields in
    let same : amount ≡ of.amount = same_amount amount of.amount sound named.2 (sym written ∙ text) in
    let told : bytes_eq of.reason name ≡ true = (bytes_eq-Decides of.reason name).1 (sym its ∙ own) in
    is ∙ (λ i. with_sum (used i) (signed_by is_paid (same i)) sums) ∙ (λ i. if sym told i then with_sum of.usage (signed_by is_paid of.amount) sums else sums)

-- ---- rows one after another

-- what is left to be counted
pub record Counts (is_paid : Bool) (name kind : List ℕ) (rows : List Rest) (text : List ℕ) (first : List Portion) (left : Option (List ℕ)) (sums : List Portion) (done : ℕ) : Type 0 where
  pub others : List Rest
  pub named : All IsNamed others
  pub rest : left ≡ Some (text_of (map (named_row kind) others))
  pub sums_are : with_rows is_paid name others sums ≡ with_rows is_paid name rows first
  pub few : length others + done ≤ length text

-- a row has a byte
rows_short : (kind : List ℕ) (rows : List Rest) → IsKindOfPortion kind → All IsNamed rows → length rows ≤ length (text_of (map (named_row kind) rows))
rows_short kind [] of named = omega arith
rows_short kind (row ∷ rows) of named =
    let line = named_line kind row of (All-head IsNamed row rows named) in
    omega (
      arith,
      rows_short kind rows of (All-tail IsNamed row rows named),
      length-append (text_of_row (named_row kind row)) (text_of (map (named_row kind) rows)),
      ap length line.bytes,
      length-append (row_body default_writer (named_row kind row)) (10 ∷ []),
    )

pub counts_first : (is_paid : Bool) (name kind : List ℕ) (rows : List Rest) (text : List ℕ) (first : List Portion) (left : Option (List ℕ)) → left ≡ Some text → IsTextOf kind rows text
    → Counts is_paid name kind rows text first left first 0
counts_first is_paid name kind rows text first left is of = record {
  others = rows;
  named = of.sound;
  rest = is ∙ ap Some of.is;
  sums_are = refl;
  few = omega (arith, rows_short kind rows of.of_portions of.sound, ap length of.is);
}

-- what a step says of a row that comes next, and of the end
abbrev StepsOn : (is_paid : Bool) (name : List ℕ) (old new : Option (List ℕ)) (sums more : List Portion) (found : Bool) → Type 0
StepsOn is_paid name old new sums more found = (kind : List ℕ) (row : Rest) (others : List Rest) → IsKindOfPortion kind → IsNamed row
    → old ≡ Some (text_of (map (named_row kind) (row ∷ others))) → (found ≡ true) × (new ≡ Some (text_of (map (named_row kind) others))) × (more ≡ with_row is_paid name row sums)

module _ (is_paid : Bool) (name kind : List ℕ) (rows : List Rest) (text : List ℕ) (first : List Portion) (old new : Option (List ℕ)) (sums more : List Portion) (done : ℕ) where
  pub counts_more : (found : Bool) → found ≡ true → IsKindOfPortion kind → Counts is_paid name kind rows text first old sums done
      → StepsOn is_paid name old new sums more found → (old ≡ Some [] → (found ≡ false) × (more ≡ sums))
      → Counts is_paid name kind rows text first new more (done + 1)
  counts_more found is of was step ends = by was.others was.named was.rest was.sums_are was.few
    where
      by : (others : List Rest) → All IsNamed others → old ≡ Some (text_of (map (named_row kind) others)) → with_rows is_paid name others sums ≡ with_rows is_paid name rows first
          → length others + done ≤ length text → Counts is_paid name kind rows text first new more (done + 1)
      by [] named rest sums_are few = cc ((ends rest).0, is)
      by (row ∷ others) named rest sums_are few =
          let on = step kind row others of (All-head IsNamed row others named) rest in
          record {
            others = others;
            named = All-tail IsNamed row others named;
            rest = on.1;
            sums_are = ap (with_rows is_paid name others) on.2 ∙ sums_are;
            few = omega (arith, few);
          }

  pub counts_last : (found : Bool) → found ≡ false → IsKindOfPortion kind → Counts is_paid name kind rows text first old sums done
      → StepsOn is_paid name old new sums more found → (old ≡ Some [] → (found ≡ false) × (more ≡ sums)) → more ≡ with_rows is_paid name rows first
  counts_last found is of was step ends = by was.others was.named was.rest was.sums_are
    where
      by : (others : List Rest) → All IsNamed others → old ≡ Some (text_of (map (named_row kind) others)) → with_rows is_paid name others sums ≡ with_rows is_paid name rows first
          → more ≡ with_rows is_paid name rows first
      by [] named rest sums_are = (ends rest).1 ∙ sums_are
      by (row ∷ others) named rest sums_are = cc ((step kind row others of (All-head IsNamed row others named) rest).0, is)

pub counts_all : (is_paid : Bool) (name kind : List ℕ) (rows : List Rest) (text : List ℕ) (first : List Portion) (left : Option (List ℕ)) (sums : List Portion) (done : ℕ)
    → length text ≤ done → Counts is_paid name kind rows text first left sums done → sums ≡ with_rows is_paid name rows first
counts_all is_paid name kind rows text first left sums done all was = by was.others was.sums_are was.few
  where
    by : (others : List Rest) → with_rows is_paid name others sums ≡ with_rows is_paid name rows first → length others + done ≤ length text → sums ≡ with_rows is_paid name rows first
    by [] sums_are few = sums_are
    by (row ∷ others) sums_are few = absurd (omega (arith, few, all))
