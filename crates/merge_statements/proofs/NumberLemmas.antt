-- Numbers as they are written, with no needless digit.
use Rattle.std.proofs.Common.{◌≡◌, ◌≤◌, ◌<◌, ◌^◌, ◌∙◌, ◌⊎◌, ℕ, Option, Some, None, zero, suc, List, ◌∷◌, length, get_or, inl, inr, refl, sym, ap, subst, arith}
use Rattle.std.specs.Fmt.{decimal, signed_decimal}
use Rattle.std.specs.Prelude.{ℤ, pos, negsuc}
use Rattle.merge_statements.specs.Statements.{IsAmount}
use Rattle.std.specs.Option.{IfNone, IfSome}
use Rattle.std.proofs.lemmas.Bool.{cases_lt}
use Rattle.std.specs.Str.Parse.{AllDigits, IsNumeral, digits_value}
use Rattle.std.proofs.lemmas.Fmt.{decimal-digits_value, decimal_digit, decimal_is_IsNumeral, first_decimal}
use Rattle.std.proofs.lemmas.Str.Parse.{IsNumeralModel, digit_at}
use Rattle.csv_table.specs.Forms.{IsNumber, number_of}

own : IsNumeralModel (AllDigits 10) (digits_value 10)
own = record { to = λ ds digits. digits; from = λ ds digits. digits; same = λ ds digits. refl }

-- digits are what is written of their number
pub written : (most : ℕ) (field : List ℕ) → most < 2 ^ 64 → IsNumber most field → (get_or field 0 0 ≡ 48 → length field ≡ 1) → field ≡ decimal (number_of field)
written most field low number plain = sym (decimal-digits_value own field number.digits.1 number.digits.0 plain (omega (arith, number.small)))

-- what is written is read
pub is_number : (n most : ℕ) (field : List ℕ) → most < 2 ^ 64 → n ≤ most → field ≡ decimal n → IsNumber most field
is_number n most field low small is =
    let digits = decimal_is_IsNumeral n (omega arith) in
    subst (IsNumber most) (sym is) (record { digits = digits.0; small = omega (arith, digits.1) })

-- and has no needless zero
pub no_zero : (n : ℕ) (field : List ℕ) → n < 2 ^ 64 → 1 < length field → get_or field 0 0 ≡ 48 → field ≡ decimal n → ⊥
no_zero zero field low long digit is =
    let one = ap length is ∙ ap length (decimal_digit 0 (omega arith)) in
    omega (arith, one)
no_zero (suc n) field low long digit is =
    let first = first_decimal (suc n) (omega arith) low in
    omega (arith, first, ap (λ (ds : List ℕ). get_or ds 0 0) is)

-- nor a minus
pub no_minus : (n : ℕ) (digits : List ℕ) → n < 2 ^ 64 → 45 ∷ digits ≡ decimal n → ⊥
no_minus n digits low is =
    let numeral = subst (IsNumeral 10) (sym is) (decimal_is_IsNumeral n low).0 in
    let digit = digit_at (45 ∷ digits) 0 numeral.1 numeral.0 in
    omega (arith, digit)

-- a field without a needless zero that is a number
pub exact : (most : ℕ) (field : List ℕ) (o : Option ℕ) → most < 2 ^ 64 → ((1 < length field) × (get_or field 0 0 ≡ 48) → ⊥)
    → IfSome o (λ number. IsNumber most field × (number ≡ number_of field)) → IfSome o (λ number. (number ≤ most) × (field ≡ decimal number))
exact most field None low plain is = tt
exact most field (Some number) low plain is =
    let short : get_or field 0 0 ≡ 48 → length field ≡ 1 = λ digit. by (cases_lt 1 (length field)) digit in
    (rw is.1 is.0.small, written most field low is.0 short ∙ ap decimal (sym is.1))
  where
    by : (1 < length field) ⊎ (length field ≤ 1) → get_or field 0 0 ≡ 48 → length field ≡ 1
    by (inl long) digit = absurd (plain (long, digit))
    by (inr few) digit = omega (arith, few, is.0.digits.0)

pub none_exact : (most : ℕ) (field : List ℕ) (o : Option ℕ) → most < 2 ^ 64 → IfNone o (IsNumber most field → ⊥)
    → IfNone o ((number : ℕ) → number ≤ most → field ≡ decimal number → ⊥)
none_exact most field None low none = λ number small is. none (is_number number most field low small is)
none_exact most field (Some number) low none = tt

-- an amount below 0, by its size
pub none_negative : (field digits : List ℕ) → field ≡ 45 ∷ digits → ((size : ℕ) → 0 < size → size ≤ 1000000000000 → digits ≡ decimal size → ⊥)
    → (amount : ℤ) → IsAmount amount → field ≡ signed_decimal amount → ⊥
none_negative field digits begins none (pos n) amount is = no_minus n digits (omega (arith, amount.1)) (sym begins ∙ is)
none_negative field digits begins none (negsuc n) amount is = none (suc n) amount.0 amount.1 (cc (sym begins ∙ is))
