-- How a text begins with a field, and what a line is the row of.
use Rattle.std.proofs.Common.{◌≡◌, ◌≤◌, ◌<◌, ◌+◌, ◌-◌, ◌∙◌, ◌⊎◌, ℕ, suc, List, [], ◌∷◌, ◌++◌, length, get_or, set, take, drop, Bool, true, false, Option, Some, None, inl, inr, refl, sym, ap, subst, append_assoc, arith}
use Rattle.std.specs.Prelude.{◌==◌, ◌||◌}
use Rattle.std.specs.Option.{IfNone, is_some}
use Rattle.std.specs.List.{list_any}
use Rattle.std.proofs.lemmas.Bool.{cases_Bool, eqb-true, eq-eqb}
use Rattle.std.proofs.lemmas.List.{append_cancel_right, append-nil, get_or-take, length-drop, length-take-le, take_more_set}
use Rattle.std.proofs.lemmas.List.Folds.{list_any_at, list_any-append}
use Rattle.std.proofs.Math.Seq.{drop-cons, take-length}
use Rattle.std.proofs.lemmas.List.{take-append-drop}
use Rattle.csv.specs.Writing.{default_writer, escaped, field_text, fields_text, is_blank, needs_byte, needs_quotes, row_body}
use Rattle.csv_table.specs.Written.{text_of_row}
use Rattle.memchr.specs.Find.{IsFirstByte, Nowhere, Passes}
use Rattle.merge_statements.specs.Fields.{IsBehindField, IsBehindQuote, IsFieldAt, is_comma, is_mark}

pub or-left : (a b : Bool) → (a || b) ≡ false → a ≡ false
or-left false b e = refl
or-left true b e = cc e

pub or-right : (a b : Bool) → (a || b) ≡ false → b ≡ false
or-right false b e = e
or-right true b e = cc e

not-true : (x : Bool) → (x ≡ true → ⊥) → x ≡ false
not-true true n = absurd (n refl)
not-true false n = refl

-- ---- the first byte that passes a test

none_any : (test : ℕ → Bool) (xs : List ℕ) → ((k : ℕ) → k < length xs → test (get_or xs k 0) ≡ true → ⊥) → list_any test xs ≡ false
none_any test [] h = refl
none_any test (x ∷ xs) h =
    rw (not-true (test x) (h 0 (omega arith))) (none_any test xs (λ k few. h (suc k) (omega (arith, few))))

pub none_found : (test : ℕ → Bool) (xs : List ℕ) → Nowhere (Passes test xs) 0 (length xs) → list_any test xs ≡ false
none_found test xs h = none_any test xs (λ k few. h k (omega arith) few)

pub first_found : (test : ℕ → Bool) (xs : List ℕ) (o : Option ℕ) → IsFirstByte test xs o → is_some o ≡ list_any test xs
first_found test xs None h = sym (none_found test xs h)
first_found test xs (Some k) h = sym (list_any_at test xs k 0 h.0.high h.1)

pub none_before : (test : ℕ → Bool) (xs : List ℕ) (k : ℕ) → k ≤ length xs → Nowhere (Passes test xs) 0 k → list_any test (take k xs) ≡ false
none_before test xs k within h =
    none_any test (take k xs) (λ j few.
    let low : j < k = omega (arith, few, length-take-le k xs within) in
    λ passes. h j (omega arith) low (subst (λ (b : ℕ). test b ≡ true) (get_or-take k xs j 0 low) passes))

-- a text from a place on, as a slice gives it
pub rest_from : (n : ℕ) (text : List ℕ) → take (length text - n) (drop n text) ≡ drop n text
rest_from n text = ap (λ (k : ℕ). take k (drop n text)) (sym (length-drop n text)) ∙ take-length (drop n text)

-- a text that is cut at a place
pub parts_at : (text : List ℕ) (k byte : ℕ) → k < length text → get_or text k 0 ≡ byte
    → text ≡ take k text ++ byte ∷ take (length text - (k + 1)) (drop (k + 1) text)
parts_at text k byte few is =
    let more : k + 1 ≡ suc k = omega arith in
    rw (more, rest_from (suc k) text) (sym (take-append-drop k text) ∙ ap (λ (t : List ℕ). take k text ++ t) (drop-cons text k 0 few ∙ ap (λ (b : ℕ). b ∷ drop (suc k) text) is))

-- ---- fields between quotes

escaped-plain : (b : ℕ) (rest : List ℕ) → (b == 34) ≡ false → escaped default_writer (b ∷ rest) ≡ b ∷ escaped default_writer rest
unfolding escaped
escaped-plain b rest n = rw n refl

escaped-quote : (b : ℕ) (rest : List ℕ) → (b == 34) ≡ true → escaped default_writer (b ∷ rest) ≡ 34 ∷ 34 ∷ escaped default_writer rest
unfolding escaped
escaped-quote b rest n = rw n (ap (λ (c : ℕ). 34 ∷ c ∷ escaped default_writer rest) (eqb-true b 34 n))

escaped-none : escaped default_writer [] ≡ []
unfolding escaped
escaped-none = refl

-- a field that is taken piece by piece
pub escaped-more : (xs ys : List ℕ) → escaped default_writer (xs ++ ys) ≡ escaped default_writer xs ++ escaped default_writer ys
escaped-more [] ys = rw escaped-none refl
escaped-more (x ∷ xs) ys = elim (cases_Bool (x == 34)) [
  | inl quote ↦ rw (escaped-quote x (xs ++ ys) quote, escaped-quote x xs quote, escaped-more xs ys) refl
  | inr other ↦ rw (escaped-plain x (xs ++ ys) other, escaped-plain x xs other, escaped-more xs ys) refl
]

-- what is left of a field of which a part was taken
pub left_of : (a x field rest : List ℕ) → IsBehindQuote rest → escaped default_writer a ++ x ≡ escaped default_writer field ++ 34 ∷ rest
    → (g : List ℕ) × (field ≡ a ++ g) × (x ≡ escaped default_writer g ++ 34 ∷ rest)
left_of [] x field rest ends e = (field, refl, rw escaped-none at e)
left_of (b ∷ a) x [] rest ends e = elim (cases_Bool (b == 34)) [
  | inl quote ↦
      let two : 34 ∷ 34 ∷ (escaped default_writer a ++ x) ≡ 34 ∷ rest = rw (escaped-quote b a quote, escaped-none) at e in
      let is : rest ≡ 34 ∷ (escaped default_writer a ++ x) = cc in
      absurd ((subst IsBehindQuote is ends) refl)
  | inr other ↦
      let one : b ∷ (escaped default_writer a ++ x) ≡ 34 ∷ rest = rw (escaped-plain b a other, escaped-none) at e in
      let is : b ≡ 34 = cc in
      cc (sym (eq-eqb b 34 is) ∙ other)
]
left_of (b ∷ a) x (c ∷ field) rest ends e = elim (cases_Bool (b == 34)) [
  | inl quote ↦ elim (cases_Bool (c == 34)) [
    | inl quote' ↦
        let both : 34 ∷ 34 ∷ (escaped default_writer a ++ x) ≡ 34 ∷ 34 ∷ (escaped default_writer field ++ 34 ∷ rest) = rw (escaped-quote b a quote, escaped-quote c field quote') at e in
        let (g, same, left) = left_of a x field rest ends (cc both) in
        let byte : c ≡ b = eqb-true c 34 quote' ∙ sym (eqb-true b 34 quote) in
        (g, cc, left)
    | inr other ↦
        let one : 34 ∷ 34 ∷ (escaped default_writer a ++ x) ≡ c ∷ (escaped default_writer field ++ 34 ∷ rest) = rw (escaped-quote b a quote, escaped-plain c field other) at e in
        let is : c ≡ 34 = cc in
        cc (sym (eq-eqb c 34 is) ∙ other)
  ]
  | inr other ↦ elim (cases_Bool (c == 34)) [
    | inl quote ↦
        let one : b ∷ (escaped default_writer a ++ x) ≡ 34 ∷ 34 ∷ (escaped default_writer field ++ 34 ∷ rest) = rw (escaped-plain b a other, escaped-quote c field quote) at e in
        let is : b ≡ 34 = cc in
        cc (sym (eq-eqb b 34 is) ∙ other)
    | inr other' ↦
        let both : b ∷ (escaped default_writer a ++ x) ≡ c ∷ (escaped default_writer field ++ 34 ∷ rest) = rw (escaped-plain b a other, escaped-plain c field other') at e in
        let (g, same, left) = left_of a x field rest ends (cc both) in
        let byte : c ≡ b = cc in
        (g, cc, left)
  ]
]

-- what was read of a field between quotes, and a byte more of it
pub read_none : (text room : List ℕ) → text ≡ escaped default_writer (take 0 room) ++ drop 0 text
read_none text room = rw escaped-none refl

read_more : (text room before after : List ℕ) (size byte : ℕ) → size < length room → text ≡ escaped default_writer (take size room) ++ before
    → before ≡ escaped default_writer (byte ∷ []) ++ after → text ≡ escaped default_writer (take (size + 1) (set room size byte)) ++ after
read_more text room before after size byte fits read is =
    read
    ∙ ap (λ (t : List ℕ). escaped default_writer (take size room) ++ t) is
    ∙ sym (append_assoc (escaped default_writer (take size room)) (escaped default_writer (byte ∷ [])) after)
    ∙ sym (ap (λ (t : List ℕ). t ++ after) (ap (escaped default_writer) (take_more_set room size byte fits) ∙ escaped-more (take size room) (byte ∷ [])))

pub read_plain : (text room : List ℕ) (at size : ℕ) → at < length text → size < length room → (get_or text at 0 == 34) ≡ false
    → text ≡ escaped default_writer (take size room) ++ drop at text
    → text ≡ escaped default_writer (take (size + 1) (set room size (get_or text at 0))) ++ drop (at + 1) text
read_plain text room at size more fits other read =
    let next : at + 1 ≡ suc at = omega arith in
    read_more text room (drop at text) (drop (at + 1) text) size (get_or text at 0) fits read
    (rw (escaped-plain (get_or text at 0) [] other, escaped-none, next) (drop-cons text at 0 more))

pub read_quote : (text room : List ℕ) (at size : ℕ) → at + 1 < length text → size < length room → get_or text at 0 ≡ 34 → get_or text (at + 1) 0 ≡ 34
    → text ≡ escaped default_writer (take size room) ++ drop at text
    → text ≡ escaped default_writer (take (size + 1) (set room size (get_or text (at + 1) 0))) ++ drop (at + 1 + 1) text
read_quote text room at size more fits quote quote' read =
    let next : at + 1 ≡ suc at = omega arith in
    let last : at + 1 + 1 ≡ suc (suc at) = omega arith in
    let few : at < length text = omega arith in
    let few' : suc at < length text = omega arith in
    let same : get_or text (suc at) 0 ≡ 34 = rw next at quote' in
    let is : drop at text ≡ 34 ∷ 34 ∷ drop (suc (suc at)) text =
    drop-cons text at 0 few ∙ ap (λ (b : ℕ). b ∷ drop (suc at) text) quote ∙ ap (λ (t : List ℕ). 34 ∷ t) (drop-cons text (suc at) 0 few' ∙ ap (λ (b : ℕ). b ∷ drop (suc (suc at)) text) same) in
    read_more text room (drop at text) (drop (at + 1 + 1) text) size (get_or text (at + 1) 0) fits read
    (rw (escaped-quote (get_or text (at + 1) 0) [] (eq-eqb _ 34 quote'), escaped-none, last) is)

-- where nothing is left the field goes on
pub never_ends : (g rest : List ℕ) → [] ≡ escaped default_writer g ++ 34 ∷ rest → ⊥
never_ends [] rest e = cc (rw escaped-none at e)
never_ends (c ∷ g) rest e = elim (cases_Bool (c == 34)) [
  | inl quote ↦ cc (rw (escaped-quote c g quote) at e)
  | inr other ↦ cc (rw (escaped-plain c g other) at e)
]

-- a field and what stands behind it
abbrev Same : (f g r s : List ℕ) → Type 0
Same f g r s = (f ≡ g) × (r ≡ s)

-- a quote before which the field ends
pub ends_at_quote : (g r s : List ℕ) → IsBehindQuote r → 34 ∷ r ≡ escaped default_writer g ++ 34 ∷ s → Same [] g r s
ends_at_quote [] r s ends e = (refl, cc (rw escaped-none at e))
ends_at_quote (c ∷ g) r s ends e = elim (cases_Bool (c == 34)) [
  | inl quote ↦
      let two : 34 ∷ r ≡ 34 ∷ 34 ∷ (escaped default_writer g ++ 34 ∷ s) = rw (escaped-quote c g quote) at e in
      let is : r ≡ 34 ∷ (escaped default_writer g ++ 34 ∷ s) = cc in
      absurd ((subst IsBehindQuote is ends) refl)
  | inr other ↦
      let one : 34 ∷ r ≡ c ∷ (escaped default_writer g ++ 34 ∷ s) = rw (escaped-plain c g other) at e in
      let is : c ≡ 34 = cc in
      cc (sym (eq-eqb c 34 is) ∙ other)
]

pub same_quoted : (f g r s : List ℕ) → IsBehindQuote r → IsBehindQuote s
    → escaped default_writer f ++ 34 ∷ r ≡ escaped default_writer g ++ 34 ∷ s → Same f g r s
same_quoted f g r s end_r end_s e =
    let (h, same, left) = left_of f (34 ∷ r) g s end_s e in
    let (none, rest) = ends_at_quote h r s end_r left in
    (sym (same ∙ (ap (λ (t : List ℕ). f ++ t) (sym none) ∙ append-nil f)), rest)

-- ---- fields without quotes

plain-byte : (b : ℕ) → is_comma b ≡ false → is_mark b ≡ false → needs_byte default_writer b ≡ false
plain-byte b comma mark =
    let q = or-left (b == 34) _ (or-left ((b == 34) || (b == 13)) _ mark) in
    let r = or-right (b == 34) _ (or-left ((b == 34) || (b == 13)) _ mark) in
    let n = or-right ((b == 34) || (b == 13)) _ mark in
    rw (comma, q, r, n) refl

byte-parts : (b : ℕ) → needs_byte default_writer b ≡ false → (is_comma b ≡ false) × (is_mark b ≡ false)
byte-parts b e =
    let a = not-true (b == 44) (λ t. cc (rw t at e)) in
    let q = not-true (b == 34) (λ t. cc (rw (a, t) at e)) in
    let r = not-true (b == 13) (λ t. cc (rw (a, q, t) at e)) in
    let n = not-true (b == 10) (λ t. cc (rw (a, q, r, t) at e)) in
    (a, rw (q, r, n) refl)

pub plain : (xs : List ℕ) → list_any is_comma xs ≡ false → list_any is_mark xs ≡ false → needs_quotes default_writer xs ≡ false
plain [] comma mark = refl
plain (b ∷ rest) comma mark =
    rw (plain-byte b (or-left _ _ comma) (or-left _ _ mark)) (plain rest (or-right _ _ comma) (or-right _ _ mark))

pub plain_parts : (xs : List ℕ) → needs_quotes default_writer xs ≡ false → (list_any is_comma xs ≡ false) × (list_any is_mark xs ≡ false)
plain_parts [] e = (refl, refl)
plain_parts (b ∷ rest) e =
    let here = byte-parts b (or-left _ _ e) in
    let there = plain_parts rest (or-right _ _ e) in
    (rw here.0 there.0, rw here.1 there.1)

-- two fields without a comma that begin the same text are the same
pub same_plain : (f g r s : List ℕ) → list_any is_comma f ≡ false → list_any is_comma g ≡ false → IsBehindField r → IsBehindField s
    → f ++ r ≡ g ++ s → Same f g r s
same_plain [] [] r s cf cg er es e = (refl, e)
same_plain [] (b ∷ g) r s cf cg er es e =
    let comma : b ≡ 44 = subst IsBehindField e er in
    cc (sym (eq-eqb b 44 comma) ∙ or-left _ _ cg)
same_plain (a ∷ f) [] r s cf cg er es e =
    let comma : a ≡ 44 = subst IsBehindField (sym e) es in
    cc (sym (eq-eqb a 44 comma) ∙ or-left _ _ cf)
same_plain (a ∷ f) (b ∷ g) r s cf cg er es e =
    let byte : a ≡ b = cc in
    let rest : f ++ r ≡ g ++ s = cc in
    let on = same_plain f g r s (or-right _ _ cf) (or-right _ _ cg) er es rest in
    (ap (λ (x : ℕ). x ∷ f) byte ∙ ap (λ (xs : List ℕ). b ∷ xs) on.0, on.1)

-- ---- fields of both kinds

pub behind_quote : (r : List ℕ) → IsBehindField r → IsBehindQuote r
behind_quote [] ends = tt
behind_quote (b ∷ r) ends = λ quote. omega (arith, ends, quote)

pub as_quoted : (f r : List ℕ) → needs_quotes default_writer f ≡ true → field_text default_writer f ++ r ≡ 34 ∷ (escaped default_writer f ++ 34 ∷ r)
as_quoted f r needs = rw needs (ap (λ (t : List ℕ). 34 ∷ t) (append_assoc (escaped default_writer f) (34 ∷ []) r))

pub as_plain : (f r : List ℕ) → needs_quotes default_writer f ≡ false → field_text default_writer f ++ r ≡ f ++ r
as_plain f r needs = rw needs refl

-- a field without quotes begins with none
no_quote : (f r x : List ℕ) → needs_quotes default_writer f ≡ false → IsBehindField r → f ++ r ≡ 34 ∷ x → ⊥
no_quote [] r x needs ends e =
    let comma : 34 ≡ 44 = subst IsBehindField e ends in
    omega (arith, comma)
no_quote (b ∷ f) r x needs ends e =
    let is : b ≡ 34 = cc in
    let mark = or-left ((b == 34) || (b == 13)) _ (byte-parts b (or-left _ _ needs)).1 in
    cc (sym (eq-eqb b 34 is) ∙ or-left _ _ mark)

-- how a text begins with a field
pub kinds : (t f r : List ℕ) → IsFieldAt t f r
    → ((needs_quotes default_writer f ≡ true) × (t ≡ 34 ∷ (escaped default_writer f ++ 34 ∷ r))) ⊎ ((needs_quotes default_writer f ≡ false) × (t ≡ f ++ r))
kinds t f r field = elim (cases_Bool (needs_quotes default_writer f)) [
  | inl needs ↦ inl (needs, field.written ∙ as_quoted f r needs)
  | inr free ↦ inr (free, field.written ∙ as_plain f r free)
]

-- a text begins with one field
pub unique : (t f g r s : List ℕ) → IsFieldAt t f r → IsFieldAt t g s → Same f g r s
unique t f g r s one other = elim (kinds t f r one) [
  | inl q ↦ elim (kinds t g s other) [
    | inl q' ↦ same_quoted f g r s (behind_quote r one.ends) (behind_quote s other.ends) (cc (sym q.1 ∙ q'.1))
    | inr p' ↦ absurd (no_quote g s _ p'.0 other.ends (sym p'.1 ∙ q.1))
  ]
  | inr p ↦ elim (kinds t g s other) [
    | inl q' ↦ absurd (no_quote f r _ p.0 one.ends (sym p.1 ∙ q'.1))
    | inr p' ↦ same_plain f g r s (plain_parts f p.0).0 (plain_parts g p'.0).0 one.ends other.ends (sym p.1 ∙ p'.1)
  ]
]

pub plain_at : (t f r : List ℕ) → list_any is_comma f ≡ false → list_any is_mark f ≡ false → IsBehindField r → t ≡ f ++ r → IsFieldAt t f r
plain_at t f r comma mark ends is = record { written = is ∙ sym (as_plain f r (plain f comma mark)); ends = ends }

-- a field of a line without marks
pub cut_field : (line f r : List ℕ) → list_any is_mark line ≡ false → line ≡ f ++ 44 ∷ r → list_any is_comma f ≡ false
    → IsFieldAt line f (44 ∷ r) × (list_any is_mark r ≡ false)
cut_field line f r marks is comma =
    let both = sym (list_any-append is_mark f (44 ∷ r)) ∙ ap (list_any is_mark) (sym is) ∙ marks in
    (plain_at line f (44 ∷ r) comma (or-left _ _ both) refl is, or-right (list_any is_mark f) _ both)

pub whole_field : (line : List ℕ) → list_any is_mark line ≡ false → list_any is_comma line ≡ false → IsFieldAt line line []
whole_field line marks comma = plain_at line line [] comma marks tt (sym (append-nil line))

-- a field that a quote begins
pub quoted_at : (text f r : List ℕ) → IsFieldAt (34 ∷ text) f r → (needs_quotes default_writer f ≡ true) × (text ≡ escaped default_writer f ++ 34 ∷ r)
quoted_at text f r field = elim (kinds (34 ∷ text) f r field) [
  | inl q ↦ (q.0, cc q.1)
  | inr p ↦ absurd (no_quote f r text p.0 field.ends (sym p.1))
]

-- where no quote begins a text, and a mark stands before the first comma, it begins with no field
pub marked : (t f r : List ℕ) → IsBehindQuote t → list_any is_comma f ≡ false → list_any is_mark f ≡ true → IsBehindField r → t ≡ f ++ r
    → (g s : List ℕ) → IsFieldAt t g s → ⊥
marked t f r begins comma mark ends is g s field = elim (kinds t g s field) [
  | inl q ↦ (subst IsBehindQuote q.1 begins) refl
  | inr p ↦
      let parts = plain_parts g p.0 in
      let same = same_plain f g r s comma parts.0 ends field.ends (sym is ∙ p.1) in
      cc (sym mark ∙ ap (list_any is_mark) same.0 ∙ parts.1)
]

-- ---- rows

behind_fields : (fields : List (List ℕ)) → IsBehindField (fields_text default_writer fields)
unfolding fields_text
behind_fields [] = tt
behind_fields (field ∷ rest) = refl

-- a line is no row of so many fields
abbrev pub IsNoRow : ℕ → List ℕ → Type 0
IsNoRow n line = (fields : List (List ℕ)) → length fields ≡ n → line ≡ row_body default_writer fields → ⊥

pub none_here : (n : ℕ) (line : List ℕ) → ((f r : List ℕ) → IsFieldAt line f r → ⊥) → IsNoRow (suc n) line
none_here n line none [] many is = absurd (omega (arith, many))
none_here n line none (a ∷ more) many is = none a (fields_text default_writer more) (record { written = is; ends = behind_fields more })

pub none_behind : (n : ℕ) (line f r : List ℕ) → IsFieldAt line f r → ((rest : List ℕ) → r ≡ 44 ∷ rest → ⊥) → IsNoRow (suc (suc n)) line
unfolding fields_text
none_behind n line f r field none [] many is = absurd (omega (arith, many))
none_behind n line f r field none (a ∷ []) many is = absurd (omega (arith, many))
none_behind n line f r field none (a ∷ b ∷ more) many is =
    let same = unique line f a r (fields_text default_writer (b ∷ more)) field (record { written = is; ends = behind_fields (b ∷ more) }) in
    none _ same.1

pub none_on : (n : ℕ) (line f r rest : List ℕ) → IsFieldAt line f r → r ≡ 44 ∷ rest → IsNoRow (suc n) rest → IsNoRow (suc (suc n)) line
unfolding fields_text
none_on n line f r rest field comma none [] many is = absurd (omega (arith, many))
none_on n line f r rest field comma none (a ∷ []) many is = absurd (omega (arith, many))
none_on n line f r rest field comma none (a ∷ b ∷ more) many is =
    let same = unique line f a r (fields_text default_writer (b ∷ more)) field (record { written = is; ends = behind_fields (b ∷ more) }) in
    none (b ∷ more) (omega (arith, many)) (cc (sym comma ∙ same.1))

pub none_last : (line f r : List ℕ) → IsFieldAt line f r → (r ≡ [] → ⊥) → IsNoRow 1 line
unfolding fields_text
none_last line f r field none [] many is = absurd (omega (arith, many))
none_last line f r field none (a ∷ []) many is = none (unique line f a r [] field (record { written = is; ends = tt })).1
none_last line f r field none (a ∷ b ∷ more) many is = absurd (omega (arith, many))

-- where so many fields stand before
pub after_one : (line r1 f1 : List ℕ) → IsFieldAt line f1 (44 ∷ r1) → IsNoRow 3 r1 → IsNoRow 4 line
after_one line r1 f1 at_1 none = none_on 2 line f1 (44 ∷ r1) r1 at_1 refl none

pub after_two : (line r1 r2 f1 f2 : List ℕ) → IsFieldAt line f1 (44 ∷ r1) → IsFieldAt r1 f2 (44 ∷ r2) → IsNoRow 2 r2 → IsNoRow 4 line
after_two line r1 r2 f1 f2 at_1 at_2 none = after_one line r1 f1 at_1 (none_on 1 r1 f2 (44 ∷ r2) r2 at_2 refl none)

pub after_three : (line r1 r2 r3 f1 f2 f3 : List ℕ) → IsFieldAt line f1 (44 ∷ r1) → IsFieldAt r1 f2 (44 ∷ r2) → IsFieldAt r2 f3 (44 ∷ r3) → IsNoRow 1 r3 → IsNoRow 4 line
after_three line r1 r2 r3 f1 f2 f3 at_1 at_2 at_3 none = after_two line r1 r2 f1 f2 at_1 at_2 (none_on 0 r2 f3 (44 ∷ r3) r3 at_3 refl none)

-- with its line feed
pub no_row : (line : List ℕ) → IsNoRow 4 line → (fields : List (List ℕ)) → length fields ≡ 4 → text_of_row fields ≡ line ++ 10 ∷ [] → ⊥
unfolding is_blank
no_row line none [] many is = absurd (omega (arith, many))
no_row line none (a ∷ []) many is = absurd (omega (arith, many))
no_row line none (a ∷ b ∷ more) many is =
    none (a ∷ b ∷ more) many (append_cancel_right line (row_body default_writer (a ∷ b ∷ more)) (10 ∷ []) (sym is))

pub row_of : (line r1 r2 r3 a b c d : List ℕ) → IsFieldAt line a (44 ∷ r1) → IsFieldAt r1 b (44 ∷ r2) → IsFieldAt r2 c (44 ∷ r3) → IsFieldAt r3 d []
    → text_of_row (a ∷ b ∷ c ∷ d ∷ []) ≡ line ++ 10 ∷ []
unfolding is_blank fields_text
row_of line r1 r2 r3 a b c d at_a at_b at_c at_d =
    ap (λ (t : List ℕ). t ++ 10 ∷ []) (sym (rw (sym at_d.written, sym at_c.written, sym at_b.written) at_a.written))

pub if_none : {T : Type 0} {P : Type 0} (o : Option T) → P → IfNone o P
if_none None p = p
if_none (Some x) p = tt

-- whether a text is empty
pub is_nothing : (xs : List ℕ) → (length xs == 0) ≡ true → xs ≡ []
is_nothing [] e = refl
is_nothing (x ∷ xs) e = absurd (omega (arith, eqb-true (length (x ∷ xs)) 0 e))

pub is_something : (xs : List ℕ) → (length xs == 0) ≡ false → xs ≡ [] → ⊥
is_something [] e none = cc e
is_something (x ∷ xs) e none = cc none
