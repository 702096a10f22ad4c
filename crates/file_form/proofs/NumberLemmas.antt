-- The number that a field of a trailer writes.
use Rattle.std.proofs.Common.{◌≡◌, ◌∙◌, ◌≤◌, ◌<◌, ◌&&◌, ◌∷◌, [], ℕ, Bool, true, IfNone, IfSome, List, None, Option, Some, ap, arith, cond, drop, length, nat_le, nat_lt, refl, sym, inl, inr}
use Rattle.std.specs.Char.{digit_value}
use Rattle.std.specs.List.{list_all}
use Rattle.std.specs.Str.Parse.{AllDigits, digits_value}
use Rattle.std.proofs.lemmas.Bool.{and_from, and_parts, cases_Bool, le-leb, le-ltb, leb-true, lt-ltb, ltb-true}
use Rattle.std.proofs.lemmas.List.{length-take}
use Rattle.std.proofs.lemmas.Str.Parse.{IsNumeralModel, digit_from_value, digits_value_short}
use Rattle.csv_table.specs.Forms.{IsNumber, number_of}
use Rattle.cwr_share.specs.Fields.{field_of}
use Rattle.file_form.specs.Controls.{is_digit, number_in, place_of}
use Rattle.file_form.specs.declared.controls.Counted.{Counted}
use Rattle.file_form.specs.declared.controls.Counted.TheVariants.{Groups, Transactions, Records}

own : IsNumeralModel (AllDigits 10) (digits_value 10)
own = record { to = λ ds digits. digits; from = λ ds digits. digits; same = λ ds digits. refl }

digit_told : (byte : ℕ) → digit_value byte < 10 → is_digit byte ≡ true
digit_told byte small = let range = digit_from_value byte small in and_from (nat_le 48 byte) (nat_le byte 57) (le-leb 48 byte range.0) (le-leb byte 57 range.1)

digit_small : (byte : ℕ) → is_digit byte ≡ true → digit_value byte < 10
digit_small byte is =
    let parts = and_parts (nat_le 48 byte) (nat_le byte 57) is in
    let low : 48 ≤ byte = leb-true 48 byte parts.0 in
    let high : byte ≤ 57 = leb-true byte 57 parts.1 in
    rw (le-ltb byte 48 low, lt-ltb byte 58 (omega arith)) (omega arith)

digits_told : (field : List ℕ) → AllDigits 10 field → list_all is_digit field ≡ true
digits_told [] digits = refl
digits_told (byte ∷ field) digits = and_from (is_digit byte) (list_all is_digit field) (digit_told byte digits.0) (digits_told field digits.1)

all_digits : (field : List ℕ) → list_all is_digit field ≡ true → AllDigits 10 field
all_digits [] told = tt
all_digits (byte ∷ field) told = let parts = and_parts (is_digit byte) (list_all is_digit field) told in (digit_small byte parts.0, all_digits field parts.1)

-- whether a field writes a number
abbrev writes : List ℕ → Bool
writes field = nat_lt 0 (length field) && list_all is_digit field

-- a short field that writes a number writes one that fits
fits : (field : List ℕ) → length field ≤ 8 → writes field ≡ true → IsNumber 18446744073709551615 field
fits field short told =
    let parts = and_parts (nat_lt 0 (length field)) (list_all is_digit field) told in
    let digits = all_digits field parts.1 in
    let small = digits_value_short own field 8 digits short in
    record { digits = (ltb-true 0 (length field) parts.0, digits); small = omega (arith, small) }

pub number_read : (field : List ℕ) (o : Option ℕ) → length field ≤ 8 → IfSome o (λ number. IsNumber 18446744073709551615 field × (number ≡ number_of field))
    → IfNone o (¬ IsNumber 18446744073709551615 field) → o ≡ number_in field
number_read field (Some number) short some none =
    let told : writes field ≡ true = and_from (nat_lt 0 (length field)) (list_all is_digit field) (lt-ltb 0 (length field) some.0.digits.0) (digits_told field some.0.digits.1) in
    ap (λ (n : ℕ). Some n) some.1 ∙ ap (λ (b : Bool). cond b (Some (number_of field)) None) (sym told)
number_read field None short some none = elim (cases_Bool (writes field)) [
  | inl told ↦ absurd (none (fits field short told))
  | inr other ↦ ap (λ (b : Bool). cond b (Some (number_of field)) None) (sym other)
]

-- the fields are short
pub place_short : (counted : Counted) (line : List ℕ) → length (field_of (place_of counted) line) ≤ 8
place_short Groups line = omega (arith, length-take 5 (drop 3 line))
place_short Transactions line = omega (arith, length-take 8 (drop 8 line))
place_short Records line = omega (arith, length-take 8 (drop 16 line))
