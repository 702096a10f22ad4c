-- The rows that are written of lines are usage lines.
use Rattle.std.proofs.Common.{◌≡◌, ◌≤◌, ◌∷◌, [], ℕ, suc, ℤ, pos, negsuc, neg_ℤ, unsigned_abs, Bool, true, false, List, ap, arith, refl, subst, sym}
use Rattle.std.specs.Prelude.{decimal, if◌then◌else◌}
use Rattle.std.specs.Fmt.{signed_decimal}
use Rattle.std.specs.Str.Parse.{IsNumeral}
use Rattle.std.proofs.lemmas.Fmt.{decimal_is_IsNumeral}
use Rattle.std.proofs.lemmas.Int.{ints}
use Rattle.std.proofs.lemmas.Str.Parse.{digit_from_value}
use Rattle.csv_table.specs.Forms.{IsNumber, IsPrintable, IsSignedNumber, has_minus, signed_number_of}
use Rattle.decimal_amounts.specs.Decimals.{IsAmount}
use Rattle.decimal_amounts.specs.declared.amount.Mark.{Mark}
use Rattle.line_split.specs.UsageLine.{line_of}
use Rattle.line_split.specs.UsageTable.{IsLine}
use Rattle.line_split.specs.declared.TheConstants.{MOST_AMOUNT, MOST_TEXT_BYTES}
use Rattle.sales_lines.specs.Sales.{IsLineOf}
use Rattle.sales_lines.specs.declared.outcome.SalesLine.{SalesLine}
use Rattle.sales_lines.specs.declared.settings.Settings.{Settings}
use Rattle.sales_import.specs.Imported.{line_row, sold_of}

-- ---- amounts that were written

-- digits have no sign
unsigned : (field : List ℕ) → IsNumeral 10 field → has_minus field ≡ false
unsigned [] is = refl
unsigned (c ∷ cs) is = let digit = digit_from_value c is.1.0 in grind (arith, digit)

written : (size : ℕ) → size ≤ MOST_AMOUNT → IsNumber MOST_AMOUNT (decimal size)
written size small =
    let is = decimal_is_IsNumeral size (omega (arith, small)) in
    record { digits = is.0; small = omega (arith, is.1, small) }

pub is_signed : (z : ℤ) → unsigned_abs z ≤ MOST_AMOUNT → IsSignedNumber MOST_AMOUNT (signed_decimal z)
is_signed (pos n) small = rw (unsigned (decimal n) (written n small).digits) (written n small)
is_signed (negsuc n) small = written (suc n) small

pub says : (z : ℤ) → unsigned_abs z ≤ MOST_AMOUNT → signed_number_of (signed_decimal z) ≡ z
says (pos n) small = rw (unsigned (decimal n) (written n small).digits) (ap pos (decimal_is_IsNumeral n (omega (arith, small))).1)
says (negsuc n) small = ap (λ (m : ℕ). neg_ℤ (pos m)) (decimal_is_IsNumeral (suc n) (omega (arith, small))).1

-- an amount is no larger than the most
pub amount_small : (mark : Mark) (text : List ℕ) (places : ℕ) (amount : ℤ) → IsAmount mark text places amount → unsigned_abs amount ≤ MOST_AMOUNT
amount_small mark text places amount (short, size, is, signed) =
    subst (λ (z : ℤ). unsigned_abs z ≤ MOST_AMOUNT) (sym signed) (by (has_minus text) is.small)
  where
    by : (minus : Bool) → size ≤ MOST_AMOUNT → unsigned_abs (if minus then neg_ℤ (pos size) else pos size) ≤ MOST_AMOUNT
    by true small = omega (arith, ints)
    by false small = small

-- ---- the row of a line

pub is_line : (settings : Settings) (row : List (List ℕ)) (line : SalesLine) → IsLineOf settings row line → IsLine (line_row (sold_of line))
is_line settings row line is = record {
  whole = refl;
  texts = (subst (IsPrintable MOST_TEXT_BYTES) (sym is.usage) is.named, is.work.1);
  territory = is.territory.1;
  right = is.right.1;
  amount = is_signed line.amount (amount_small _ _ _ line.amount is.amount);
}

pub has_amount : (settings : Settings) (row : List (List ℕ)) (line : SalesLine) → IsLineOf settings row line
    → (line_of (line_row (sold_of line))).amount ≡ line.amount
has_amount settings row line is = says line.amount (amount_small _ _ _ line.amount is.amount)
