-- What was escaped opens nothing, and reads back.
use Rattle.std.proofs.Common.{◌≡◌, ◌≢◌, ℕ, zero, suc, ◌≤◌, ◌<◌, ◌&&◌, not, Bool, true, List, [], ◌∷◌, ◌++◌, length, All, refl, sym, ap, subst, ◌∙◌, arith, ⊎_elim, length-append, le_refl, ne_eqb}
use Rattle.std.specs.Prelude.{◌==◌, codes}
use Rattle.std.specs.List.{list_all}
use Rattle.std.proofs.lemmas.Bool.{and_parts, cases_eq}
use Rattle.std.proofs.lemmas.Bool.Decides.{nat_tests}
use Rattle.std.proofs.lemmas.List.Elements.{All-append, All-cons, All-head, All-nil, All-tail}
use Rattle.page_text.specs.Escaped.{escaped, escaped_byte, read_back, read_from}

-- a byte that is none of the five stands as it is
plain_byte : (byte : ℕ) → byte ≢ 38 → byte ≢ 60 → byte ≢ 62 → byte ≢ 34 → byte ≢ 39 → escaped_byte byte ≡ byte ∷ []
plain_byte byte a b c d e =
    rw (ne_eqb 38 byte (λ x. a (sym x)), ne_eqb 60 byte (λ x. b (sym x)), ne_eqb 62 byte (λ x. c (sym x)), ne_eqb 34 byte (λ x. d (sym x)), ne_eqb 39 byte (λ x. e (sym x)))

-- what holds of the five bytes with what stands for them, and of each other byte as it is, holds of every byte
by_byte : (P : ℕ → List ℕ → Type 0) → P 38 (codes "&amp;") → P 60 (codes "&lt;") → P 62 (codes "&gt;") → P 34 (codes "&quot;") → P 39 (codes "&#39;")
    → ((byte : ℕ) → byte ≢ 38 → byte ≢ 60 → byte ≢ 62 → byte ≢ 34 → byte ≢ 39 → P byte (byte ∷ [])) → (byte : ℕ) → P byte (escaped_byte byte)
by_byte P amp lt gt quot apos plain byte =
    let at = λ (b : ℕ) (p : P b (escaped_byte b)) (e : byte ≡ b). subst (λ x. P x (escaped_byte x)) (sym e) p in
    ⊎_elim (at 38 amp)
    (λ (a : byte ≢ 38). ⊎_elim (at 60 lt)
    (λ (b : byte ≢ 60). ⊎_elim (at 62 gt)
    (λ (c : byte ≢ 62). ⊎_elim (at 34 quot)
    (λ (d : byte ≢ 34). ⊎_elim (at 39 apos)
    (λ (e : byte ≢ 39). subst (P byte) (sym (plain_byte byte a b c d e)) (plain byte a b c d e))
    (cases_eq byte 39)) (cases_eq byte 34)) (cases_eq byte 62)) (cases_eq byte 60)) (cases_eq byte 38)

-- the byte opens nothing: it is none of < > " '
abbrev pub OpensNothing : ℕ → Type 0
OpensNothing byte = (byte ≢ 60) × (byte ≢ 62) × (byte ≢ 34) × (byte ≢ 39)

-- the same as a test
abbrev opens_nothing : ℕ → Bool
opens_nothing byte = not (byte == 60) && not (byte == 62) && not (byte == 34) && not (byte == 39)

opens_nothing_says : (byte : ℕ) → opens_nothing byte ≡ true → OpensNothing byte
opens_nothing_says byte h = (λ e. grind (arith, nat_tests), λ e. grind (arith, nat_tests), λ e. grind (arith, nat_tests), λ e. grind (arith, nat_tests))

all_open_nothing : (text : List ℕ) → list_all opens_nothing text ≡ true → All OpensNothing text
all_open_nothing [] h = All-nil OpensNothing
all_open_nothing (byte ∷ rest) h =
    let both = and_parts (opens_nothing byte) (list_all opens_nothing rest) h in
    All-cons OpensNothing byte rest (opens_nothing_says byte both.0) (all_open_nothing rest both.1)

-- what stands for a byte opens nothing
escaped_byte_opens_nothing : (byte : ℕ) → All OpensNothing (escaped_byte byte)
escaped_byte_opens_nothing = by_byte (λ _ bs. All OpensNothing bs)
    (all_open_nothing (codes "&amp;") refl) (all_open_nothing (codes "&lt;") refl) (all_open_nothing (codes "&gt;") refl)
    (all_open_nothing (codes "&quot;") refl) (all_open_nothing (codes "&#39;") refl)
    (λ byte a b c d e. All-cons OpensNothing byte [] (b, c, d, e) (All-nil OpensNothing))

pub escaped_opens_nothing : (text : List ℕ) → All OpensNothing (escaped text)
escaped_opens_nothing [] = All-nil OpensNothing
escaped_opens_nothing (byte ∷ rest) =
    All-append OpensNothing (escaped_byte byte) (escaped rest) (escaped_byte_opens_nothing byte) (escaped_opens_nothing rest)

-- something stands for each byte
escaped_byte_some : (byte : ℕ) → 0 < length (escaped_byte byte)
escaped_byte_some = by_byte (λ _ bs. 0 < length bs) (omega arith) (omega arith) (omega arith) (omega arith) (omega arith) (λ byte a b c d e. omega arith)

-- a reader that comes to what stands for a byte reads that byte
reads_byte : (byte n : ℕ) (rest : List ℕ) → read_from (suc n) (escaped_byte byte ++ rest) ≡ byte ∷ read_from n rest
unfolding read_from
reads_byte = by_byte (λ byte bs. (n : ℕ) (rest : List ℕ) → read_from (suc n) (bs ++ rest) ≡ byte ∷ read_from n rest)
    (λ n rest. refl) (λ n rest. refl) (λ n rest. refl) (λ n rest. refl) (λ n rest. refl)
    (λ byte a b c d e n rest. rw (ne_eqb 38 byte (λ x. a (sym x))))

reads_from : (n : ℕ) (text : List ℕ) → length (escaped text) ≤ n → read_from n (escaped text) ≡ text
unfolding read_from
reads_from zero [] h = refl
reads_from (suc n) [] h = refl
reads_from zero (byte ∷ rest) h = absurd (omega (arith, escaped_byte_some byte, length-append (escaped_byte byte) (escaped rest)))
reads_from (suc n) (byte ∷ rest) h =
    let some = escaped_byte_some byte in
    let both = length-append (escaped_byte byte) (escaped rest) in
    reads_byte byte n (escaped rest) ∙ ap (λ t. byte ∷ t) (reads_from n rest (omega (arith, some, both)))

pub reads_back : (text : List ℕ) → read_back (escaped text) ≡ text
reads_back text = reads_from (length (escaped text)) text (le_refl _)

-- a text in which every byte stands as it is
pub escaped_as_it_is : (text : List ℕ) → All (λ byte. escaped_byte byte ≡ byte ∷ []) text → escaped text ≡ text
escaped_as_it_is [] all = refl
escaped_as_it_is (byte ∷ rest) all =
    (λ i. All-head (λ b. escaped_byte b ≡ b ∷ []) byte rest all i ++ escaped_as_it_is rest (All-tail (λ b. escaped_byte b ≡ b ∷ []) byte rest all) i)
