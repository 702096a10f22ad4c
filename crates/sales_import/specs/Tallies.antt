-- How many rows there are of a kind, and what their amounts come to.
use Rattle.std.specs.Prelude.{ℕ, ℤ, pos, ◌≡◌, ◌≤◌, ◌<◌, ◌+◌, ◌+ℤ◌, ◌*◌, ◌^◌, ◌∷◌, [], All, List, None, Option, Some}
use Rattle.std.specs.List.{filter}
use Rattle.std.specs.Prelude.{is_none, length, unsigned_abs, unwrap_or}
use Rattle.line_split.specs.Signs.{int_sum_by}
use Rattle.decimal_amounts.specs.declared.amount.AmountFault.TheVariants.{Long, Form, Fine, Large}
use Rattle.sales_import.specs.declared.summary.Summary.{Summary}
use Rattle.sales_import.specs.declared.tally.Tally.{Tally}
use Rattle.sales_lines.specs.declared.reason.Reason.{Reason}
use Rattle.sales_lines.specs.declared.reason.Reason.TheVariants.{Broken, Fields, Usage, Unknown, Unfit, Amount}
use Rattle.value_maps.specs.declared.kind.Kind.TheVariants.{Works, Territories, Rights}

-- ---- rows by what they count with: their amounts, or none where an amount cannot be read

abbrev pub no_rows : Tally
no_rows = record { rows = 0; without = 0; amount = pos 0 }

-- one row more
abbrev pub with_row : Tally → Option ℤ → Tally
with_row tally (Some amount) = record tally { rows = tally.rows + 1; amount = tally.amount +ℤ amount }
with_row tally None = record tally { rows = tally.rows + 1; without = tally.without + 1 }

-- what amounts come to that can be read
abbrev pub sum_of : List (Option ℤ) → ℤ
sum_of = int_sum_by (λ amount. unwrap_or amount (pos 0))

-- what rows come to
abbrev pub tally_of : List (Option ℤ) → Tally
tally_of amounts = record {
  rows = length amounts;
  without = length (filter is_none amounts);
  amount = sum_of amounts;
}

-- The place of a reason among all. A row is looked at for one after another.
abbrev pub place_of : Reason → ℕ
place_of Broken = 0
place_of Fields = 1
place_of Usage = 2
place_of (Unknown Works) = 3
place_of (Unfit Works) = 4
place_of (Unknown Territories) = 5
place_of (Unfit Territories) = 6
place_of (Unknown Rights) = 7
place_of (Unfit Rights) = 8
place_of (Amount Long) = 9
place_of (Amount Form) = 10
place_of (Amount Fine) = 11
place_of (Amount Large) = 12

-- all of them, in this order
abbrev pub all_reasons : List Reason
all_reasons = Broken ∷ Fields ∷ Usage ∷ Unknown Works ∷ Unfit Works ∷ Unknown Territories ∷ Unfit Territories
    ∷ Unknown Rights ∷ Unfit Rights ∷ Amount Long ∷ Amount Form ∷ Amount Fine ∷ Amount Large ∷ []

-- ---- no tally is too large to be counted on

abbrev pub IsSmall : Tally → Type 0
IsSmall tally = (unsigned_abs tally.amount ≤ 10 ^ 12 * tally.rows) × (tally.without ≤ tally.rows)

abbrev pub IsWithin : (number : ℕ) → Tally → Type 0
IsWithin number tally = (tally.rows < number) × IsSmall tally

-- before the row with a number
pub record AreWithin (number : ℕ) (told : Summary) : Type 0 where
  pub all : IsWithin number told.all
  pub lines : IsWithin number told.lines
  pub rejected : IsWithin number told.rejected
  pub reasons : All (IsWithin number) told.reasons
  pub count : length told.reasons ≡ 13
  pub passed : IsWithin number told.passed
