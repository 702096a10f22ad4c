-- A number of so many decimals in units of which so many places make 1.
use Rattle.std.specs.Prelude.{ℕ, ◌≡◌, ◌≤◌, ◌<◌, ◌*◌, ◌^◌}
use Rattle.line_split.specs.declared.TheConstants.{MOST_AMOUNT}
use Rattle.decimal_amounts.specs.declared.scale.Scaled.{Scaled}
use Rattle.decimal_amounts.specs.declared.scale.Scaled.TheVariants.{Units, Fine, Large}

-- The digits of a number with so many decimals write a value; so many units are worth just that.
abbrev pub IsWorth : (value decimals places units : ℕ) → Type 0
IsWorth value decimals places units = value * 10 ^ places ≡ units * 10 ^ decimals

-- the units, that no number of units is worth it, or that too many are
abbrev pub IsScaled : (value decimals places : ℕ) → Scaled → Type 0
IsScaled value decimals places (Units units) = IsWorth value decimals places units × (units ≤ MOST_AMOUNT)
IsScaled value decimals places Fine = (units : ℕ) → ¬ IsWorth value decimals places units
IsScaled value decimals places Large = (units : ℕ) × IsWorth value decimals places units × (MOST_AMOUNT < units)
