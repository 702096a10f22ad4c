-- Digests as digits.
use Rattle.std.proofs.Common.{◌≡◌, ◌<◌, ◌*◌, ◌/◌, ◌%◌, ℕ, List, [], ◌∷◌, ◌++◌, true, false, All, arith, length, refl, slice_index, sym, ap, ◌∙◌, inl, inr, get_or}
use Rattle.std.proofs.lemmas.Bool.{cases_lt}
use Rattle.std.proofs.lemmas.List.{get_or_past}
use Rattle.std.proofs.lemmas.List.Elements.{All-cons, All-nil}
use Rattle.std.proofs.lemmas.List.Sums.{AllPass-from_list_all}
use Rattle.std.specs.List.{list_all}
use Rattle.std.specs.Prelude.{◌==◌, ◌≢◌, not, Ok}
use Rattle.hex.specs.Hex.{IsBytes, decode_pairs, decode_sized, encode_lower, encode_with, lower_digits}
use Rattle.hex.proofs.HexLemmas.{IsDigits-lower_digits, decode_of-encode_lower, decode_pairs-encode_with, length-encode_with}

abbrev pub IsByte : ℕ → Type 0
IsByte byte = byte < 256

-- bytes, by any index
bytes_by_index : (digest : List ℕ) → All IsByte digest → IsBytes digest
bytes_by_index digest are i = elim (cases_lt i (length digest)) [
  | inl below ↦ are i 0 below
  | inr past ↦ let e : get_or digest i 0 ≡ 0 = get_or_past digest i 0 past in omega (arith, e)
]

-- a digest has two digits for each byte
pub digits_of_digest : (digest : List ℕ) → length (encode_lower digest) ≡ 2 * length digest
digits_of_digest digest = length-encode_with lower_digits digest

-- which read back as the digest
pub digits_read_back : (digest : List ℕ) → length digest ≡ 32 → All IsByte digest → decode_sized (encode_lower digest) 32 ≡ Ok digest
digits_read_back digest size are =
    let e : decode_pairs 0 (encode_lower digest) ≡ Ok digest = decode_pairs-encode_with lower_digits IsDigits-lower_digits 0 digest (bytes_by_index digest are) in
    let digits : length (encode_lower digest) ≡ 64 = omega (arith, digits_of_digest digest) in
    rw digits e

pub same_digest : (digest other : List ℕ) → All IsByte digest → All IsByte other → encode_lower digest ≡ encode_lower other → digest ≡ other
same_digest digest other are others e =
    cc (decode_of-encode_lower digest (bytes_by_index digest are), decode_of-encode_lower other (bytes_by_index other others), e)

-- ---- which bytes digits are

pub false_not_true : false ≡ true → ⊥
false_not_true e = cc e

-- no digit is a byte that stands in no table
digit_is_other : (byte k : ℕ) → list_all (λ (d : ℕ). not (d == byte)) lower_digits ≡ true → (byte == byte) ≡ true → 0 ≢ byte → slice_index lower_digits k ≢ byte
digit_is_other byte k passes itself some is = elim (cases_lt k (length lower_digits)) [
  | inl below ↦
      let other : not (slice_index lower_digits k == byte) ≡ true = AllPass-from_list_all (λ (d : ℕ). not (d == byte)) lower_digits passes k 0 below in
      false_not_true (ap not (sym itself) ∙ sym (ap (λ (d : ℕ). not (d == byte)) is) ∙ other)
  | inr past ↦ some (sym (get_or_past lower_digits k 0 past) ∙ is)
]

pub digits_have_no_feed : (digest : List ℕ) → All (λ byte. byte ≢ 10) (encode_lower digest)
unfolding encode_with
digits_have_no_feed [] = All-nil (λ byte. byte ≢ 10)
digits_have_no_feed (b ∷ rest) =
    All-cons (λ byte. byte ≢ 10) (slice_index lower_digits (b / 16)) (slice_index lower_digits (b % 16) ∷ encode_lower rest) (digit_is_other 10 (b / 16) refl refl (λ e. cc e))
    (All-cons (λ byte. byte ≢ 10) (slice_index lower_digits (b % 16)) (encode_lower rest) (digit_is_other 10 (b % 16) refl refl (λ e. cc e)) (digits_have_no_feed rest))

-- nor do they begin as a comment does
pub digits_begin_otherwise : (digest text behind : List ℕ) → length digest ≡ 32 → encode_lower digest ++ text ≢ 35 ∷ behind
unfolding encode_with
digits_begin_otherwise [] text behind size e = absurd (omega arith)
digits_begin_otherwise (b ∷ rest) text behind size e = digit_is_other 35 (b / 16) refl refl (λ e. cc e) (cc e)
