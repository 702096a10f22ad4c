-- Numbers that were written read back.
use Rattle.std.proofs.Common.{◌≡◌, ◌^◌, ◌<◌, ◌∷◌, [], ℕ, suc, ℤ, pos, negsuc, neg_ℤ, unsigned_abs, false, List, ap, refl, arith}
use Rattle.std.specs.Prelude.{decimal}
use Rattle.std.specs.Fmt.{signed_decimal}
use Rattle.std.specs.Str.Parse.{IsNumeral}
use Rattle.std.proofs.lemmas.Fmt.{decimal_is_IsNumeral_wide}
use Rattle.std.proofs.lemmas.Str.Parse.{digit_from_value}
use Rattle.csv_table.specs.Forms.{has_minus, number_of, signed_number_of}

pub decimal_back : (n : ℕ) → n < 10 ^ 64 → number_of (decimal n) ≡ n
decimal_back n small = (decimal_is_IsNumeral_wide n small).1

-- digits have no sign
no_minus : (field : List ℕ) → IsNumeral 10 field → has_minus field ≡ false
no_minus [] is = refl
no_minus (c ∷ cs) is = let digit = digit_from_value c is.1.0 in grind (arith, digit)

pub signed_back : (z : ℤ) → unsigned_abs z < 10 ^ 64 → signed_number_of (signed_decimal z) ≡ z
signed_back (pos n) small = rw (no_minus (decimal n) (decimal_is_IsNumeral_wide n small).0) (ap pos (decimal_back n small))
signed_back (negsuc n) small = ap (λ (m : ℕ). neg_ℤ (pos m)) (decimal_back (suc n) small)
