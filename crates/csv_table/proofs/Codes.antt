-- How large a code is.
use Rattle.std.proofs.Common.{ℕ, List, refl, arith}
use Rattle.std.specs.Str.Parse.{AllDigits, digits_value}
use Rattle.std.proofs.lemmas.Str.Parse.{IsNumeralModel, digits_value_short}
use Rattle.csv_table.specs.Forms.{IsCode, IsNumber}
use Rattle.csv_table.specs.declared.forms.TheConstants.{MOST_CODE, MOST_CODE_DIGITS}

own : IsNumeralModel (AllDigits 10) (digits_value 10)
own = record { to = λ ds digits. digits; from = λ ds digits. digits; same = λ ds digits. refl }

-- a code is at most 9999
pub code_small : (field : List ℕ) → IsCode field → IsNumber MOST_CODE field
code_small field code =
    let small = digits_value_short own field MOST_CODE_DIGITS code.digits.1 code.short in
    record { digits = code.digits; small = omega (arith, small) }
