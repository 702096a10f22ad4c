-- The rows of a text that is cut behind a line feed are those of its two parts, where no field of the first has a line feed.
use Rattle.std.proofs.Common.{append_assoc, ◌≡◌, ◌≢◌, ◌<◌, ◌+◌, ◌-◌, ℕ, zero, suc, List, [], ◌∷◌, ◌++◌, length, get_or, Option, Some, None, Bool, true, false, inl, inr, ◌⊎◌, refl, subst, sym, ap, ◌∙◌, arith}
use Rattle.std.specs.Prelude.{◌==◌, ◌&&◌, All, drop, if◌then◌else◌, take, ⊤}
use Rattle.std.proofs.lemmas.Bool.{cases_Bool, ne_eqb}
use Rattle.std.proofs.Math.Seq.{take-length}
use Rattle.std.proofs.lemmas.List.{length-drop, take-append-drop}
use Rattle.std.proofs.lemmas.List.Elements.{All-head, All-rest, All-tail}
use Rattle.csv.specs.Machine.{Read, field_after, fields_after, in_field, is_end, next_record, start_field, start_record, step}
use Rattle.csv.specs.Reading.{default_config, is_bom, records, strip_bom}
use Rattle.csv.specs.declared.parser.Action.{Action}
use Rattle.csv.specs.declared.parser.Action.TheVariants as act
use Rattle.csv.specs.declared.parser.State.{State}
use Rattle.csv.specs.declared.parser.State.TheVariants as st
use Rattle.csv_table.specs.Table.{HasNoLineFeed, HaveNoLineFeed, rows_of}
use Rattle.csv_table.specs.Walk.{rows_from}
use Rattle.csv_table.proofs.Walks.{all_left, goes_down, none_left, row_and_left}

-- a state that the default settings lead to: they have no escapes and no comments
abbrev IsReached : State → Type 0
IsReached st.StartRecord = ⊤
IsReached st.StartField = ⊤
IsReached st.InField = ⊤
IsReached st.InQuoted = ⊤
IsReached st.AfterQuote = ⊤
IsReached st.AfterCr = ⊤
IsReached st.InEscape = ⊥
IsReached st.InComment = ⊥

-- a state before a row
abbrev IsBefore : State → Type 0
IsBefore st.StartRecord = ⊤
IsBefore st.StartField = ⊥
IsBefore st.InField = ⊥
IsBefore st.AfterCr = ⊤
IsBefore st.InQuoted = ⊥
IsBefore st.AfterQuote = ⊥
IsBefore st.InEscape = ⊥
IsBefore st.InComment = ⊥

-- what a byte does: it is left out before a row, or joins the row, or ends it
abbrev Kind : State → State × Action → Type 0
Kind s r = (IsBefore s × (r ≡ (st.StartRecord, act.Skip)))
    ⊎ (((t : State) × (a : Action) × (r ≡ (t, a)) × (is_end a ≡ false) × IsReached t × ¬ IsBefore t)
    ⊎ ((t : State) × (r ≡ (t, act.EndRecord)) × IsReached t))

field_kind : (s : State) (c : ℕ) → Kind s (in_field default_config c)
field_kind s c = elim (cases_Bool (c == 44)) [
  | inl comma ↦ inr (inl (st.StartField, act.EndField, rw comma refl, refl, tt, λ e. e))
  | inr other ↦ elim (cases_Bool (c == 13)) [
    | inl return ↦ inr (inr (st.AfterCr, rw (other, return) refl, tt))
    | inr neither ↦ elim (cases_Bool (c == 10)) [
      | inl feed ↦ inr (inr (st.StartRecord, rw (other, neither, feed) refl, tt))
      | inr plain ↦ inr (inl (st.InField, act.Copy, rw (other, neither, plain) refl, refl, tt, λ e. e))
    ]
  ]
]

-- where a quote opens a field, or else closes it, or is a byte of it
quote_kind : (s t : State) (a : Action) (c : ℕ) (r : State × Action) → is_end a ≡ false → IsReached t → ¬ IsBefore t
    → Kind s r → Kind s (if c == 34 then (t, a) else r)
quote_kind s t a c r going reached inside other = elim (cases_Bool (c == 34)) [
  | inl quote ↦ inr (inl (t, a, rw quote refl, going, reached, inside))
  | inr none ↦ subst (Kind s) (rw none refl) other
]

begin_kind : (s : State) (c : ℕ) → Kind s (start_field default_config c)
begin_kind s c = quote_kind s st.InQuoted act.Skip c (in_field default_config c) refl tt (λ e. e) (field_kind s c)

start_kind : (s : State) → IsBefore s → (c : ℕ) → Kind s (start_record default_config c)
start_kind s before c = elim (cases_Bool (c == 13)) [
  | inl return ↦ inl (before, rw return refl)
  | inr other ↦ elim (cases_Bool (c == 10)) [
    | inl feed ↦ inl (before, rw (other, feed) refl)
    | inr neither ↦ subst (Kind s) (rw (other, neither) refl) (begin_kind s c)
  ]
]

step_kind : (s : State) → IsReached s → (c : ℕ) → Kind s (step default_config s c)
step_kind st.StartRecord is c = start_kind st.StartRecord tt c
step_kind st.StartField is c = begin_kind st.StartField c
step_kind st.InField is c = field_kind st.InField c
step_kind st.InQuoted is c =
    quote_kind st.InQuoted st.AfterQuote act.Skip c (st.InQuoted, act.Copy) refl tt (λ e. e) (inr (inl (st.InQuoted, act.Copy, refl, refl, tt, λ e. e)))
step_kind st.AfterQuote is c = quote_kind st.AfterQuote st.InQuoted act.Copy c (in_field default_config c) refl tt (λ e. e) (field_kind st.AfterQuote c)
step_kind st.AfterCr is c = elim (cases_Bool (c == 10)) [
  | inl feed ↦ inl (tt, rw feed refl)
  | inr other ↦ subst (Kind st.AfterCr) (rw other refl) (start_kind st.AfterCr tt c)
]
step_kind st.InEscape is c = absurd is
step_kind st.InComment is c = absurd is

-- a text that ends with a line feed
abbrev EndsLine : List ℕ → Type 0
EndsLine [] = ⊥
EndsLine (c ∷ []) = c ≡ 10
EndsLine (c ∷ d ∷ rest) = EndsLine (d ∷ rest)

-- what is left of the part before the cut: nothing, before a row, or more that ends with a line feed
abbrev IsPart : State → List ℕ → Type 0
IsPart s [] = s ≡ st.StartRecord
IsPart s (c ∷ rest) = IsReached s × EndsLine (c ∷ rest)

-- the next row of the part, and of the part with a text behind it, are the same
abbrev AreSame : List ℕ → (one both : Option Read) → Type 0
AreSame tail one both = (q : Read) × (one ≡ Some q) × (both ≡ Some (q.0, q.1, q.2 ++ tail)) × IsPart q.1 q.2

-- the part ends within quotes, so its next row has the line feed before the cut
abbrev IsOpen : Option Read → Type 0
IsOpen one = (q : Read) × (one ≡ Some q) × ¬ HasNoLineFeed q.0

-- or the part has no next row, and then that of both is the first of the text behind
abbrev Alike : State → List (List ℕ) → List ℕ → List ℕ → (one both : Option Read) → Type 0
Alike s fields field tail one both =
    (AreSame tail one both ⊎ IsOpen one)
    ⊎ (IsBefore s × (one ≡ None) × (both ≡ next_record default_config st.StartRecord fields field tail))

-- what holds of all holds of the last
last_of : {X : Type 0} (P : X → Type 0) (xs : List X) (x : X) → All P (xs ++ x ∷ []) → P x
last_of P [] x all = All-head P x [] all
last_of P (y ∷ ys) x all = last_of P ys x (All-tail P y (ys ++ x ∷ []) all)

-- a row whose last field ends with a line feed
feed_in_last : (fields : List (List ℕ)) (field : List ℕ) → ¬ HasNoLineFeed (fields ++ (field ++ 10 ∷ []) ∷ [])
feed_in_last fields field all =
    let IsOther : ℕ → Type 0 = λ byte. ¬ (byte ≡ 10) in
    last_of IsOther field 10 (last_of (All IsOther) fields (field ++ 10 ∷ []) all) refl

-- the line feed at the end
at_feed : (s : State) → IsReached s → (fields : List (List ℕ)) (field tail : List ℕ)
    → Alike s fields field tail (next_record default_config s fields field (10 ∷ [])) (next_record default_config s fields field (10 ∷ tail))
unfolding next_record
at_feed st.StartRecord is fields field tail = inr (tt, refl, refl)
at_feed st.StartField is fields field tail = inl (inl ((fields ++ (field ∷ []), st.StartRecord, []), refl, refl, refl))
at_feed st.InField is fields field tail = inl (inl ((fields ++ (field ∷ []), st.StartRecord, []), refl, refl, refl))
at_feed st.InQuoted is fields field tail = inl (inr ((fields ++ ((field ++ 10 ∷ []) ∷ []), st.StartRecord, []), refl, feed_in_last fields field))
at_feed st.AfterQuote is fields field tail = inl (inl ((fields ++ (field ∷ []), st.StartRecord, []), refl, refl, refl))
at_feed st.AfterCr is fields field tail = inr (tt, refl, refl)
at_feed st.InEscape is fields field tail = absurd is
at_feed st.InComment is fields field tail = absurd is

-- where a row has begun, there is a next one
begun : (s : State) (fields : List (List ℕ)) (field tail : List ℕ) (one both : Option Read) → ¬ IsBefore s → Alike s fields field tail one both
    → AreSame tail one both ⊎ IsOpen one
begun s fields field tail one both inside alike = elim alike [
  | inl some ↦ some
  | inr none ↦ absurd (inside none.0)
]

-- a byte before the end
goes_alike : (s : State) → IsReached s → (fields : List (List ℕ)) (field : List ℕ) (c : ℕ) (rest tail : List ℕ) → EndsLine (c ∷ rest)
    → Alike s fields field tail (next_record default_config s fields field (c ∷ rest)) (next_record default_config s fields field (c ∷ (rest ++ tail)))
unfolding next_record
goes_alike s is fields field c [] tail ends =
    subst (λ (b : ℕ). Alike s fields field tail (next_record default_config s fields field (b ∷ [])) (next_record default_config s fields field (b ∷ tail))) (sym ends) (at_feed s is fields field tail)
goes_alike s is fields field c (d ∷ rest) tail ends = elim (step_kind s is c) [
  | inl skip ↦ rw skip.1 (elim (goes_alike st.StartRecord tt fields field d rest tail ends) [
    | inl some ↦ inl some
    | inr none ↦ inr (skip.0, none.1, none.2)
  ])
  | inr goes ↦ elim goes [
    | inl on ↦ let (t, a, by, going, reached, inside) = on in
        rw (by, going) (inl (begun t _ _ tail _ _ inside (goes_alike t reached (fields_after a fields field) (field_after a c field) d rest tail ends)))
    | inr done ↦ let (t, by, reached) = done in
        rw by (inl (inl ((fields ++ (field ∷ []), t, d ∷ rest), refl, refl, (reached, ends))))
  ]
]

-- where the next row is the same, so are the rows
same_rows : (s t : State) (xs ys : List ℕ) → next_record default_config s [] [] xs ≡ next_record default_config t [] [] ys → rows_from s (Some xs) ≡ rows_from t (Some ys)
same_rows s t xs ys same = by (next_record default_config t [] [] ys) refl
  where
    by : (o : Option Read) → next_record default_config t [] [] ys ≡ o → rows_from s (Some xs) ≡ rows_from t (Some ys)
    by None is = none_left s xs (same ∙ is) ∙ sym (none_left t ys is)
    by (Some p) is = row_and_left s xs p (same ∙ is) ∙ sym (row_and_left t ys p is)

-- no row is left of nothing
no_row : next_record default_config st.StartRecord [] [] [] ≡ None
unfolding next_record
no_row = refl

-- the rows of the part, and then those of the text behind it
rows_apart : (n : ℕ) (s : State) (xs tail : List ℕ) → length xs < n → IsPart s xs → HaveNoLineFeed (rows_from s (Some xs))
    → rows_from s (Some (xs ++ tail)) ≡ rows_from s (Some xs) ++ rows_from st.StartRecord (Some tail)
rows_apart zero s xs tail short is closed = absurd (omega (arith, short))
rows_apart (suc n) s [] tail short is closed = subst (λ (t : State). rows_from t (Some tail) ≡ rows_from t (Some []) ++ rows_from st.StartRecord (Some tail)) (sym is) (sym (ap (λ (rows : List (List (List ℕ))). rows ++ rows_from st.StartRecord (Some tail)) (none_left st.StartRecord [] no_row)))
rows_apart (suc n) s (c ∷ rest) tail short is closed = elim (goes_alike s is.0 [] [] c rest tail is.1) [
  | inl row ↦ elim row [
    | inl some ↦ let (q, one, both, left) = some in
        let rows = row_and_left s (c ∷ rest) q one in
        row_and_left s (c ∷ (rest ++ tail)) (q.0, q.1, q.2 ++ tail) both
        ∙ (ap (λ (l : List (List (List ℕ))). q.0 ∷ l) (rows_apart n q.1 q.2 tail (omega (arith, short, (goes_down s [] [] c rest q one).0)) left (All-rest HasNoLineFeed q.0 (rows_from q.1 (Some q.2)) (rows_from s (Some (c ∷ rest))) rows closed))
        ∙ ap (λ (l : List (List (List ℕ))). l ++ rows_from st.StartRecord (Some tail)) (sym rows))
    | inr quoted ↦ let (q, one, feed) = quoted in
        absurd (feed (All-head HasNoLineFeed q.0 (rows_from q.1 (Some q.2)) (subst HaveNoLineFeed (row_and_left s (c ∷ rest) q one) closed)))
  ]
  | inr none ↦
      same_rows s st.StartRecord (c ∷ (rest ++ tail)) tail none.2
      ∙ ap (λ (rows : List (List (List ℕ))). rows ++ rows_from st.StartRecord (Some tail)) (sym (none_left s (c ∷ rest) none.1))
]

-- the same of a text and its first part, without a byte order mark
unmarked : (xs tail : List ℕ) → IsPart st.StartRecord xs → HaveNoLineFeed (records default_config xs) → records default_config (xs ++ tail) ≡ records default_config xs ++ records default_config tail
unmarked xs tail is closed =
    sym (all_left (xs ++ tail)) ∙ (rows_apart (length xs + 1) st.StartRecord xs tail (omega arith) is (subst HaveNoLineFeed (sym (all_left xs)) closed)
    ∙ (λ i. all_left xs i ++ all_left tail i))

-- ---- byte order marks

-- a text that begins with another byte has none
pub no_mark : (tail : List ℕ) → (0 < length tail → get_or tail 0 0 ≢ 0xEF) → strip_bom tail ≡ tail
unfolding strip_bom
no_mark [] other = refl
no_mark (a ∷ []) other = refl
no_mark (a ∷ b ∷ []) other = refl
no_mark (a ∷ b ∷ c ∷ rest) other = rw (ne_eqb a 0xEF (other (omega arith))) refl

-- a line feed is no part of one
second : (x z : Bool) → (x && false && z) ≡ false
second true z = refl
second false z = refl

third : (x y : Bool) → (x && y && false) ≡ false
third true true = refl
third true false = refl
third false y = refl

-- so what comes behind the cut makes no difference
abbrev Stripped : List ℕ → List ℕ → Type 0
Stripped xs tail = (strip_bom (xs ++ tail) ≡ strip_bom xs ++ tail) × IsPart st.StartRecord (strip_bom xs)

strips : (xs tail : List ℕ) → EndsLine xs → Stripped xs tail
unfolding strip_bom
strips [] tail ends = absurd ends
strips (a ∷ []) tail ends = (by tail, (tt, ends))
  where
    by : (tail : List ℕ) → strip_bom (a ∷ tail) ≡ a ∷ tail
    by [] = refl
    by (t ∷ []) = refl
    by (t ∷ u ∷ rest) = rw ends refl
strips (a ∷ b ∷ []) tail ends = (by tail, (tt, ends))
  where
    by : (tail : List ℕ) → strip_bom (a ∷ b ∷ tail) ≡ a ∷ b ∷ tail
    by [] = refl
    by (t ∷ rest) = rw (ends, second (a == 0xEF) (t == 0xBF)) refl
strips (a ∷ b ∷ c ∷ []) tail ends =
    let none : is_bom a b c ≡ false = rw (ends, third (a == 0xEF) (b == 0xBB)) refl in
    rw none (refl, (tt, ends))
strips (a ∷ b ∷ c ∷ d ∷ rest) tail ends = elim (cases_Bool (is_bom a b c)) [
  | inl mark ↦ rw mark (refl, (tt, ends))
  | inr none ↦ rw none (refl, (tt, ends))
]

-- A text whose first part ends with a line feed and has none in a field, and whose second begins with no byte order mark, has the rows of the first and then those of the second.
rows_of_parts : (xs tail : List ℕ) → EndsLine xs → HaveNoLineFeed (rows_of xs) → strip_bom tail ≡ tail → rows_of (xs ++ tail) ≡ rows_of xs ++ rows_of tail
rows_of_parts xs tail ends closed plain =
    let (strip, is) = strips xs tail ends in
    ap (records default_config) strip ∙ (unmarked (strip_bom xs) tail is closed ∙ ap (λ (text : List ℕ). records default_config (strip_bom xs) ++ records default_config text) (sym plain))

-- ---- a text that is cut at a place

-- a byte more before it
ends_here : (c d : ℕ) (rest : List ℕ) (n : ℕ) → EndsLine (take (n + 1) (d ∷ rest)) → EndsLine (c ∷ take (n + 1) (d ∷ rest))
ends_here c d rest n ends =
    let more : n + 1 ≡ suc n = omega arith in
    rw more (rw more at ends)

-- what ends with a line feed, by its bytes
ends_at : (xs : List ℕ) (n : ℕ) → n < length xs → get_or xs n 0 ≡ 10 → EndsLine (take (n + 1) xs)
ends_at [] n low is = absurd (omega (arith, low))
ends_at (c ∷ rest) zero low is = is
ends_at (c ∷ []) (suc n) low is = absurd (omega (arith, low))
ends_at (c ∷ d ∷ rest) (suc n) low is =
    let more : suc n + 1 ≡ suc (n + 1) = omega arith in
    rw more (ends_here c d rest n (ends_at (d ∷ rest) n (omega (arith, low)) is))

-- the two parts, the second as a slice of the text gives it
parts_of : (text : List ℕ) (n : ℕ) → take n text ++ take (length text - n) (drop n text) ≡ text
parts_of text n =
    ap (λ (k : ℕ). take n text ++ take k (drop n text)) (sym (length-drop n text))
    ∙ (ap (λ (xs : List ℕ). take n text ++ xs) (take-length (drop n text)) ∙ take-append-drop n text)

-- the rows of a text whose byte at a place is a line feed, behind which no byte order mark begins
pub rows_in_two : (text : List ℕ) (n : ℕ) → n < length text → get_or text n 0 ≡ 10
    → strip_bom (take (length text - (n + 1)) (drop (n + 1) text)) ≡ take (length text - (n + 1)) (drop (n + 1) text)
    → HaveNoLineFeed (rows_of (take (n + 1) text))
    → rows_of text ≡ rows_of (take (n + 1) text) ++ rows_of (take (length text - (n + 1)) (drop (n + 1) text))
rows_in_two text n low feed plain closed =
    ap rows_of (sym (parts_of text (n + 1))) ∙ rows_of_parts (take (n + 1) text) (take (length text - (n + 1)) (drop (n + 1) text)) (ends_at text n low feed) closed plain

-- the same, where the line feed is named
feed_ends : (before : List ℕ) → EndsLine (before ++ 10 ∷ [])
feed_ends [] = refl
feed_ends (c ∷ []) = refl
feed_ends (c ∷ d ∷ rest) = feed_ends (d ∷ rest)

pub rows_at_a_feed : (before after : List ℕ) → HaveNoLineFeed (rows_of (before ++ 10 ∷ [])) → strip_bom after ≡ after
    → rows_of (before ++ 10 ∷ after) ≡ rows_of (before ++ 10 ∷ []) ++ rows_of after
rows_at_a_feed before after closed plain =
    ap rows_of (sym (append_assoc before (10 ∷ []) after))
    ∙ rows_of_parts (before ++ 10 ∷ []) after (feed_ends before) closed plain
