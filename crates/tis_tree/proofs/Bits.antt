-- How writes to the words of a set of places change its bits.
use Rattle.std.proofs.Common.{◌≡◌, ◌≢◌, ◌<◌, ◌*◌, ◌/◌, ◌%◌, ◌^◌, ◌||◌, ◌==◌, ℕ, zero, suc, Bool, true, false, List, length, ap, sym, refl, ◌∙◌, inl, inr, arith, bit_or, w64, get_or-set_other, get_or-set_same}
use Rattle.std.specs.Prelude.{slice_index, slice_set, max}
use Rattle.std.specs.Int.{bit_at}
use Rattle.std.proofs.Math.Bool.{or-false, or-true}
use Rattle.std.proofs.Math.ListN.{replicate}
use Rattle.std.proofs.lemmas.Bool.{cases_eq, cases_lt, eq-eqb, ne_eqb}
use Rattle.std.proofs.lemmas.List.{get_or-replicate, get_or_past, length-replicate}
use Rattle.std.proofs.lemmas.Nat.Bits.{bit_at-lt, bit_at-zero, bit_at_or, bit_at_set_other, bit_at_set_same}
use Rattle.tis_tree.specs.Compiled.{has_bit}

-- a word of zeros has no bit
pub no_bit : (words : List ℕ) (place : ℕ) → slice_index words (place / 64) ≡ 0 → has_bit words place ≡ false
no_bit words place is = ap (λ (word : ℕ). bit_at word (place % 64) == 1) is ∙ ap (λ (bit : ℕ). bit == 1) (bit_at-zero (place % 64))

-- each word of zeros, and what is read past them, is 0
pub zero_word : (n k : ℕ) → slice_index (replicate n 0) k ≡ 0
zero_word n k = elim (cases_lt k n) [
  | inl inside ↦ get_or-replicate n k 0 0 inside
  | inr past ↦ get_or_past (replicate n 0) k 0 (omega (arith, past, length-replicate {A = ℕ}))
]

-- the larger of two bits is 1 where one of them is
either : (x y : ℕ) → x < 2 → y < 2 → (max x y == 1) ≡ ((x == 1) || (y == 1))
either zero zero low_x low_y = refl
either zero (suc zero) low_x low_y = refl
either (suc zero) zero low_x low_y = refl
either (suc zero) (suc zero) low_x low_y = refl
either (suc (suc x)) y low_x low_y = absurd (omega (arith, low_x))
either zero (suc (suc y)) low_x low_y = absurd (omega (arith, low_y))
either (suc zero) (suc (suc y)) low_x low_y = absurd (omega (arith, low_y))

-- a word that joins two words has the bits of both
pub joined_bit : (new old more : List ℕ) (place : ℕ) → slice_index new (place / 64) ≡ bit_or (slice_index old (place / 64)) (slice_index more (place / 64))
    → has_bit new place ≡ (has_bit old place || has_bit more place)
joined_bit new old more place is =
    let a = slice_index old (place / 64) in
    let b = slice_index more (place / 64) in
    let i = place % 64 in
    ap (λ (word : ℕ). bit_at word i == 1) is ∙ ap (λ (bit : ℕ). bit == 1) (bit_at_or a b i) ∙ either (bit_at a i) (bit_at b i) (bit_at-lt a i) (bit_at-lt b i)

-- the words with the bit of a place set
abbrev pub set_bit : List ℕ → ℕ → List ℕ
set_bit words place = slice_set words (place / 64) (bit_or (slice_index words (place / 64)) (1 * 2 ^ (place % 64) % 18446744073709551616))

-- a place is known by its word and its bit there
same_parts : (place other : ℕ) → other / 64 ≡ place / 64 → other % 64 ≡ place % 64 → other ≡ place
same_parts place other word bit = omega (arith, word, bit)

-- the place itself is in the set
set_here : (words : List ℕ) (place : ℕ) → place / 64 < length words → has_bit (set_bit words place) place ≡ true
set_here words place inside =
    let n = slice_index words (place / 64) in
    let low : place % 64 < 64 = omega arith in
    ap (λ (word : ℕ). bit_at word (place % 64) == 1) (get_or-set_same words (place / 64) (bit_or n (1 * 2 ^ (place % 64) % 18446744073709551616)) 0 inside)
    ∙ ap (λ (bit : ℕ). bit == 1) (bit_at_set_same w64 n (place % 64) low)

-- another place is in the set as before
set_there : (words : List ℕ) (place other : ℕ) → place / 64 < length words → other ≢ place → has_bit (set_bit words place) other ≡ has_bit words other
set_there words place other inside differ = elim (cases_eq (other / 64) (place / 64)) [
  | inl same ↦ same_word same
  | inr apart ↦ ap (λ (word : ℕ). bit_at word (other % 64) == 1) (get_or-set_other words (place / 64) (other / 64) _ 0 apart)
]
  where
    same_word : other / 64 ≡ place / 64 → has_bit (set_bit words place) other ≡ has_bit words other
    same_word same =
        let n = slice_index words (place / 64) in
        let low : place % 64 < 64 = omega arith in
        let apart : other % 64 ≢ place % 64 = λ bit. differ (same_parts place other same bit) in
        ap (λ (k : ℕ). bit_at (slice_index (set_bit words place) k) (other % 64) == 1) same
        ∙ ap (λ (word : ℕ). bit_at word (other % 64) == 1) (get_or-set_same words (place / 64) (bit_or n (1 * 2 ^ (place % 64) % 18446744073709551616)) 0 inside)
        ∙ ap (λ (bit : ℕ). bit == 1) (bit_at_set_other w64 n (place % 64) low (other % 64) apart)
        ∙ ap (λ (k : ℕ). bit_at (slice_index words k) (other % 64) == 1) (sym same)

-- a set with a place more
pub added_bit : (words : List ℕ) (place other : ℕ) → place / 64 < length words → has_bit (set_bit words place) other ≡ (has_bit words other || (other == place))
added_bit words place other inside = elim (cases_eq other place) [
  | inl same ↦ rw same (set_here words place inside ∙ sym (or-true (has_bit words place)) ∙ ap (λ (b : Bool). has_bit words place || b) (sym (eq-eqb place place refl)))
  | inr differ ↦ set_there words place other inside differ ∙ sym (or-false (has_bit words other)) ∙ ap (λ (b : Bool). has_bit words other || b) (sym (ne_eqb other place differ))
]
