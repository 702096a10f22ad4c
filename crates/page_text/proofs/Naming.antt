-- Names of files.
use Rattle.std.proofs.Common.{◌≡◌, ◌≢◌, ◌⊎◌, ℕ, suc, ◌+◌, ◌-◌, ◌^◌, ◌<◌, ◌≤◌, ◌&&◌, Bool, true, false, cond, IsTrue, List, [], ◌∷◌, ◌++◌, All, length}
use Rattle.std.proofs.Common.{length-take, get_or, map, take, take_at, refl, sym, ap, ◌∙◌, arith, inl, inr, ⊎_elim, append-nil, true≢false}
use Rattle.std.specs.Prelude.{◌==◌, codes, nat_le}
use Rattle.std.specs.List.{list_all}
use Rattle.std.specs.Str.Parse.{digits_value}
use Rattle.std.proofs.Math.Nat.{div-eq_of_lt}
use Rattle.std.proofs.lemmas.Bool.{and_left, and_parts, cases_Bool, cond-true, cond-false, cond_both, eq-eqb, lt-leb, ne_eqb, or_left}
use Rattle.std.proofs.lemmas.List.{map-append, map_more}
use Rattle.std.proofs.lemmas.List.Elements.{All-append, All-cons, All-head, All-map, All-nil, All-tail, All-take}
use Rattle.page_text.specs.FileNames.{file_name, is_plain, lower, plain_or_dash, slug, squeezed, without_dash}
use Rattle.page_text.specs.Figures.{last_digits}
use Rattle.page_text.proofs.Figuring.{AreDigits, AreDigits-last_digits, is_digit_from, length-last_digits, value_before}

-- the last byte, or what stands in front where there is none
abbrev last_after : ℕ → List ℕ → ℕ
last_after front [] = front
last_after front (byte ∷ rest) = last_after byte rest

last_after_some : (front : ℕ) (text : List ℕ) → 0 < length text → last_after front text ≡ get_or text (length text - 1) 0
last_after_some front [] some = absurd (omega arith)
last_after_some front (byte ∷ []) some = refl
last_after_some front (byte ∷ next ∷ rest) some =
    let one : length (byte ∷ next ∷ rest) - 1 ≡ suc (length (next ∷ rest) - 1) = omega arith in
    last_after_some byte (next ∷ rest) (omega arith) ∙ ap (λ k. get_or (byte ∷ next ∷ rest) k 0) (sym one)

at_dash : (text : List ℕ) → (length text ≡ 0) ⊎ (get_or text (length text - 1) 0 ≡ 45) → last_after 45 text ≡ 45
at_dash [] why = refl
at_dash (byte ∷ rest) why = ⊎_elim
    (λ (none : length (byte ∷ rest) ≡ 0). absurd (omega arith))
    (λ (dash : get_or (byte ∷ rest) (length (byte ∷ rest) - 1) 0 ≡ 45). last_after_some 45 (byte ∷ rest) (omega arith) ∙ dash)
    why

-- a further byte stays, unless it is a `-` behind a `-`
squeezed_push : (front byte : ℕ) (text : List ℕ)
    → squeezed front (text ++ byte ∷ []) ≡ squeezed front text ++ cond ((byte == 45) && (last_after front (squeezed front text) == 45)) [] (byte ∷ [])
unfolding squeezed
squeezed_push front byte [] = refl
squeezed_push front byte (first ∷ rest) =
    let test = (first == 45) && (front == 45) in
    let goes = λ (t : Bool). cond t (squeezed front (rest ++ byte ∷ [])) (first ∷ squeezed first (rest ++ byte ∷ [])) in
    let stays = λ (t : Bool). cond t (squeezed front rest) (first ∷ squeezed first rest) in
    let more = λ (text : List ℕ). text ++ cond ((byte == 45) && (last_after front text == 45)) [] (byte ∷ []) in
    ⊎_elim
    (λ (yes : test ≡ true). ap goes yes ∙ squeezed_push front byte rest ∙ ap (λ t. more (stays t)) (sym yes))
    (λ (no : test ≡ false). ap goes no ∙ ap (λ t. first ∷ t) (squeezed_push first byte rest) ∙ ap (λ t. more (stays t)) (sym no))
    (cases_Bool test)

plain_ne_dash : (byte : ℕ) → is_plain byte ≡ true → byte ≢ 45
plain_ne_dash byte plain e = true≢false (sym plain ∙ ap is_plain e)

-- Of a further byte of a name, a letter or digit stays, and of others a `-` where none stands in front.
module _ (name : List ℕ) (i : ℕ) (inside : i < length name) (text : List ℕ) (is : text ≡ squeezed 45 (map plain_or_dash (take i name))) where
  squeezed_more : squeezed 45 (map plain_or_dash (take (i + 1) name))
      ≡ text ++ cond ((plain_or_dash (get_or name i 0) == 45) && (last_after 45 text == 45)) [] (plain_or_dash (get_or name i 0) ∷ [])
  squeezed_more =
      ap (squeezed 45) (map_more plain_or_dash name i 0 inside) ∙ squeezed_push 45 (plain_or_dash (get_or name i 0)) (map plain_or_dash (take i name))
      ∙ ap (λ t. t ++ cond ((plain_or_dash (get_or name i 0) == 45) && (last_after 45 t == 45)) [] (plain_or_dash (get_or name i 0) ∷ [])) (sym is)

  pub plain_stays : is_plain (get_or name i 0) ≡ true → text ++ get_or name i 0 ∷ [] ≡ squeezed 45 (map plain_or_dash (take (i + 1) name))
  plain_stays plain =
      let byte = get_or name i 0 in
      let same : plain_or_dash byte ≡ byte = cond-true (is_plain byte) byte 45 plain in
      let apart = and_left (byte == 45) (last_after 45 text == 45) (ne_eqb byte 45 (plain_ne_dash byte plain)) in
      sym (squeezed_more ∙ ap (λ b. text ++ cond ((b == 45) && (last_after 45 text == 45)) [] (b ∷ [])) same ∙ ap (λ t. text ++ t) (cond-false _ [] (byte ∷ []) apart))

  other_goes : (t : Bool) → is_plain (get_or name i 0) ≡ false → (last_after 45 text == 45) ≡ t → text ++ cond t [] (45 ∷ []) ≡ squeezed 45 (map plain_or_dash (take (i + 1) name))
  other_goes t other at =
      let byte = get_or name i 0 in
      let dash : plain_or_dash byte ≡ 45 = cond-false (is_plain byte) byte 45 other in
      sym (squeezed_more ∙ ap (λ b. text ++ cond ((b == 45) && (last_after 45 text == 45)) [] (b ∷ [])) dash ∙ ap (λ u. text ++ cond u [] (45 ∷ [])) at)

  -- behind a byte that is no `-`
  pub dash_stays : is_plain (get_or name i 0) ≡ false → 0 < length text → get_or text (length text - 1) 0 ≢ 45
      → text ++ 45 ∷ [] ≡ squeezed 45 (map plain_or_dash (take (i + 1) name))
  dash_stays other some apart = other_goes false other (ne_eqb (last_after 45 text) 45 (λ e. apart (sym (last_after_some 45 text some) ∙ e)))

  -- behind another `-`, or at the beginning
  pub dash_goes : is_plain (get_or name i 0) ≡ false → (length text ≡ 0) ⊎ (get_or text (length text - 1) 0 ≡ 45)
      → text ≡ squeezed 45 (map plain_or_dash (take (i + 1) name))
  dash_goes other why =
      let at : last_after 45 text ≡ 45 = at_dash text why in
      sym (append-nil text) ∙ other_goes true other (eq-eqb (last_after 45 text) 45 at)

-- a letter or digit, or a `-`
abbrev pub IsNameByte : ℕ → Type 0
IsNameByte byte = IsTrue (is_plain byte) ⊎ (byte ≡ 45)

plain_or_dash_named : (byte : ℕ) → IsNameByte (plain_or_dash byte)
plain_or_dash_named byte = ⊎_elim
    (λ (plain : is_plain byte ≡ true). inl (ap is_plain (cond-true (is_plain byte) byte 45 plain) ∙ plain))
    (λ (other : is_plain byte ≡ false). inr (cond-false (is_plain byte) byte 45 other))
    (cases_Bool (is_plain byte))

-- what holds of each byte holds of those that stay
All-squeezed : (P : ℕ → Type 0) (front : ℕ) (text : List ℕ) → All P text → All P (squeezed front text)
unfolding squeezed
All-squeezed P front [] all = All-nil P
All-squeezed P front (byte ∷ rest) all =
    let later = All-tail P byte rest all in
    cond_both ((byte == 45) && (front == 45)) (squeezed front rest) (byte ∷ squeezed byte rest) (All P)
    (λ _. All-squeezed P front rest later) (λ _. All-cons P byte (squeezed byte rest) (All-head P byte rest all) (All-squeezed P byte rest later))

-- the letters and digits of a name, before `payee` stands for none
abbrev letters : List ℕ → List ℕ
letters name = without_dash (take 40 (squeezed 45 (map plain_or_dash name)))

-- what holds of `payee`, and of the letters and digits of a name where it has some, holds of what stands in a file's name
by_letters : (P : List ℕ → Type 0) (name : List ℕ) → P (codes "payee") → (0 < length (letters name) → P (letters name)) → P (slug name)
by_letters P name none some = go (letters name) refl
  where
    go : (text : List ℕ) → letters name ≡ text → P (slug name)
    go [] is = rw is none
    go (byte ∷ rest) is = rw is (rw is at some (omega arith))

All-letters : (name : List ℕ) → All IsNameByte (letters name)
All-letters name =
    let all = All-map IsNameByte plain_or_dash name (λ k d inside. plain_or_dash_named (get_or name k d)) in
    let first = take 40 (squeezed 45 (map plain_or_dash name)) in
    let these = All-take IsNameByte 40 _ (All-squeezed IsNameByte 45 (map plain_or_dash name) all) in
    cond_both (get_or first (length first - 1) 0 == 45) (take (length first - 1) first) first (All IsNameByte)
    (λ _. All-take IsNameByte (length first - 1) first these) (λ _. these)

all_plain : (text : List ℕ) → list_all is_plain text ≡ true → All IsNameByte text
all_plain [] h = All-nil IsNameByte
all_plain (byte ∷ rest) h =
    let both = and_parts (is_plain byte) (list_all is_plain rest) h in
    All-cons IsNameByte byte rest (inl both.0) (all_plain rest both.1)

All-digits : (ds : List ℕ) → AreDigits ds → All IsNameByte ds
All-digits [] are = All-nil IsNameByte
All-digits (d ∷ ds) are =
    let digit = or_left _ (nat_le 97 d && nat_le d 122) (or_left _ (nat_le 65 d && nat_le d 90) (is_digit_from d are.0 are.1)) in
    All-cons IsNameByte d ds (inl digit) (All-digits ds are.2)

pub names_plain : (width number : ℕ) (name : List ℕ) → All IsNameByte (file_name width number name)
names_plain width number name =
    let digits = All-digits (last_digits width number) (AreDigits-last_digits width number) in
    let words = by_letters (All IsNameByte) name (all_plain (codes "payee") refl) (λ _. All-letters name) in
    All-append IsNameByte (last_digits width number) (45 ∷ slug name) digits (All-cons IsNameByte 45 (slug name) (inr refl) words)

length-letters : (name : List ℕ) → length (letters name) ≤ 40
length-letters name =
    let text = squeezed 45 (map plain_or_dash name) in
    let first = take 40 text in
    let few : length first ≤ 40 = simp length-take (omega arith) in
    cond_both (get_or first (length first - 1) 0 == 45) (take (length first - 1) first) first (λ t. length t ≤ 40)
    (λ _. simp length-take (omega arith)) (λ _. few)

pub slug_short : (name : List ℕ) → (0 < length (slug name)) × (length (slug name) ≤ 40)
slug_short name = by_letters (λ t. (0 < length t) × (length t ≤ 40)) name (omega arith, omega arith) (λ some. (some, length-letters name))

-- digits have no case
lower_digits : (ds : List ℕ) → AreDigits ds → map lower ds ≡ ds
lower_digits [] are = refl
lower_digits (d ∷ ds) are =
    let below = and_left (nat_le 65 d) (nat_le d 90) (lt-leb 65 d (omega arith)) in
    let same : lower d ≡ d = cond-false (nat_le 65 d && nat_le d 90) (d + 32) d below in
    ap (λ b. b ∷ map lower ds) same ∙ ap (λ t. d ∷ t) (lower_digits ds are.2)

-- the digits in front of a file's name, whatever its case
front_digits : (width number : ℕ) (rest : List ℕ) → take width (map lower (last_digits width number ++ rest)) ≡ last_digits width number
front_digits width number rest =
    let digits = last_digits width number in
    ap (take width) (map-append lower digits rest ∙ ap (λ t. t ++ map lower rest) (lower_digits digits (AreDigits-last_digits width number)))
    ∙ take_at digits (map lower rest) width (length-last_digits width number)

-- they write the number
digits_number : (width number : ℕ) → number < 10 ^ width → digits_value 10 (last_digits width number) ≡ number
digits_number width number small = value_before width number [] (sym (div-eq_of_lt small))

pub names_differ : (width number other : ℕ) (name another : List ℕ) → number < 10 ^ width → other < 10 ^ width
    → map lower (file_name width number name) ≡ map lower (file_name width other another) → number ≡ other
names_differ width number other name another small less same =
    let digits = sym (front_digits width number (45 ∷ slug name)) ∙ ap (take width) same ∙ front_digits width other (45 ∷ slug another) in
    sym (digits_number width number small) ∙ ap (digits_value 10) digits ∙ digits_number width other less
