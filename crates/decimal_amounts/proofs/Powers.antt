-- Powers of ten, and what a number is worth in units.
use Rattle.std.proofs.Common.{◌≡◌, ◌∙◌, ◌≤◌, ◌<◌, ◌+◌, ◌-◌, ◌*◌, ◌/◌, ◌%◌, ◌^◌, ℕ, List, ap, length, neg_ℤ, pos, sym, refl, arith, lit<, subst}
use Rattle.std.specs.Prelude.{if◌then◌else◌}
use Rattle.std.proofs.lemmas.Nat.{pow-add}
use Rattle.std.proofs.Math.Nat.{div-add-mod, le-mul_of_pos_right, mul-div_cancel, mul-mod_left, mul_assoc, mul_comm, one-le-pow, pow-le-pow_right}
use Rattle.line_split.specs.declared.TheConstants.{MOST_AMOUNT}
use Rattle.decimal_amounts.specs.declared.scale.Scaled.{Scaled}
use Rattle.decimal_amounts.specs.declared.scale.Scaled.TheVariants.{Units, Fine, Large}
use Rattle.csv_table.specs.Forms.{has_minus, without_minus}
use Rattle.decimal_amounts.specs.Decimals.{AmountsAreOne, value_of}
use Rattle.decimal_amounts.specs.Scaled.{IsScaled, IsWorth}
use Rattle.decimal_amounts.proofs.Numbers.{decimals_one}

pub pow_some : (n : ℕ) → 0 < 10 ^ n
pow_some n = one-le-pow n 10 (omega arith)

pub pow_most : (n : ℕ) → n ≤ 38 → 10 ^ n ≤ 10 ^ 38
pow_most n low = let ten : 0 < 10 = omega arith in pow-le-pow_right ten low

-- a power of ten up to the 38th fits 128 bits
pub pow_fits : (n : ℕ) → n ≤ 38 → 10 ^ n < 2 ^ 128
pow_fits n low =
    let most : 10 ^ 38 < 2 ^ 128 = lit< tt in
    omega (arith, pow_most n low, most)

-- a power of a sum, whatever the sum is called
pow_of : (a b n : ℕ) → a + b ≡ n → 10 ^ n ≡ 10 ^ a * 10 ^ b
pow_of a b n is = ap (λ (k : ℕ). 10 ^ k) (sym is) ∙ pow-add 10 a b

module _ (value decimals places : ℕ) where
  -- ---- more decimals than places

  module _ (more : places < decimals) where
    abbrev divisor : ℕ
    divisor = 10 ^ (decimals - places)

    split : 10 ^ decimals ≡ divisor * 10 ^ places
    split = pow_of (decimals - places) places decimals (omega (arith, more))

    worth_down : (units : ℕ) → value ≡ units * divisor → IsWorth value decimals places units
    worth_down units is = ap (λ (k : ℕ). k * 10 ^ places) is ∙ (mul_assoc units divisor (10 ^ places) ∙ ap (λ (k : ℕ). units * k) (sym split))

    -- only a multiple is worth a whole number of units
    pub whole_down : (units : ℕ) → IsWorth value decimals places units → value ≡ units * divisor
    whole_down units worth =
        let same : value * 10 ^ places ≡ units * divisor * 10 ^ places = worth ∙ (ap (λ (k : ℕ). units * k) split ∙ sym (mul_assoc units divisor (10 ^ places))) in
        sym (mul-div_cancel value (pow_some places)) ∙ (ap (λ (k : ℕ). k / 10 ^ places) same ∙ mul-div_cancel (units * divisor) (pow_some places))

    pub fine_down : ¬ (value % divisor ≡ 0) → (units : ℕ) → ¬ IsWorth value decimals places units
    fine_down rest units worth = rest (ap (λ (k : ℕ). k % divisor) (whole_down units worth) ∙ mul-mod_left units divisor)

    pub scaled_down : value % divisor ≡ 0 → (result : Scaled) → IsScaled (value / divisor) 0 0 result → IsScaled value decimals places result
    scaled_down whole (Units units) is = (worth_down units (counted units (omega (arith, is.0))), is.1)
      where
        counted : (units : ℕ) → value / divisor ≡ units → value ≡ units * divisor
        counted units same = omega (arith, div-add-mod value divisor, whole, mul_comm divisor (value / divisor), ap (λ (k : ℕ). k * divisor) same)
    scaled_down whole Fine none = absurd (none (value / divisor) (omega arith))
    scaled_down whole Large (units, worth, over) = (units, worth_down units (counted units (omega (arith, worth))), over)
      where
        counted : (units : ℕ) → value / divisor ≡ units → value ≡ units * divisor
        counted units same = omega (arith, div-add-mod value divisor, whole, mul_comm divisor (value / divisor), ap (λ (k : ℕ). k * divisor) same)

  -- ---- no more decimals than places

  module _ (few : decimals ≤ places) where
    abbrev factor : ℕ
    factor = 10 ^ (places - decimals)

    join : 10 ^ places ≡ factor * 10 ^ decimals
    join = pow_of (places - decimals) decimals places (omega (arith, few))

    worth_up : (units : ℕ) → units ≡ value * factor → IsWorth value decimals places units
    worth_up units is = ap (λ (k : ℕ). value * k) join ∙ (sym (mul_assoc value factor (10 ^ decimals)) ∙ ap (λ (k : ℕ). k * 10 ^ decimals) (sym is))

    pub large_up : MOST_AMOUNT < value → IsScaled value decimals places Large
    large_up over = (value * factor, worth_up (value * factor) refl, omega (arith, over, le-mul_of_pos_right value (pow_some (places - decimals))))

    pub scaled_up : (result : Scaled) → IsScaled (value * factor) 0 0 result → IsScaled value decimals places result
    scaled_up (Units units) is = (worth_up units (omega (arith, is.0)), is.1)
    scaled_up Fine none = absurd (none (value * factor) (omega arith))
    scaled_up Large (units, worth, over) = (units, worth_up units (omega (arith, worth)), over)

-- ---- one amount

-- what is worth one number is worth no other
sizes_one : (value count places size other : ℕ) → IsWorth value count places size → IsWorth value count places other → size ≡ other
sizes_one value count places size other one also =
    let same : size * 10 ^ count ≡ other * 10 ^ count = sym one ∙ also in
    sym (mul-div_cancel size (pow_some count)) ∙ (ap (λ (k : ℕ). k / 10 ^ count) same ∙ mul-div_cancel other (pow_some count))

pub amounts_one : AmountsAreOne
amounts_one mark text places amount other (short, size, is, signed) (short', size', is', signed') =
    let decimals = decimals_one mark (without_minus text) is.whole is.decimals is'.whole is'.decimals is.number is'.number in
    let worth' = subst (λ (count : ℕ). IsWorth (value_of (without_minus text)) count places size') (ap (λ (l : List ℕ). length l) (sym decimals)) is'.worth in
    let same = sizes_one (value_of (without_minus text)) (length is.decimals) places size size' is.worth worth' in
    signed ∙ (ap (λ (n : ℕ). if has_minus text then neg_ℤ (pos n) else pos n) same ∙ sym signed')
