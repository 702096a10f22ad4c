use Rattle.std.proofs.Common.{◌-◌, ◌*◌, ◌/◌, ◌%◌, ℕ, ap, arith, subst, sym, ◌∙◌}
use Rattle.decimal_amounts.specs.Scaled.{IsScaled}
use Rattle.decimal_amounts.proofs.Powers.{fine_down, large_up, pow_fits, pow_some, scaled_down, scaled_up}
use Rattle.decimal_amounts.proofs.scale.in_units.Goals as goal

pub pow-divisor-requires : goal.pow-divisor-requires
pow-divisor-requires c = pow_fits (c.args.decimals - c.args.places) (omega (arith, c.requires.decimals))

pub nonzero_rem-value : goal.nonzero_rem-value
nonzero_rem-value c = omega (arith, c.pow-divisor.ensures, pow_some (c.args.decimals - c.args.places))

pub nonzero_div-value : goal.nonzero_div-value
nonzero_div-value c = omega (arith, c.pow-divisor.ensures, pow_some (c.args.decimals - c.args.places))

pub returns-then-value-divisor-ne0 : goal.returns-then-value-divisor-ne0
returns-then-value-divisor-ne0 c =
    fine_down c.args.value c.args.decimals c.args.places c.if-decimals-places.true (λ zero. c.if-value-divisor-ne0.true (ap (λ (k : ℕ). c.args.value % k) c.pow-divisor.ensures ∙ zero))

pub returns-then-decimals-places : goal.returns-then-decimals-places
returns-then-decimals-places c =
    scaled_down c.args.value c.args.decimals c.args.places c.if-decimals-places.true (ap (λ (k : ℕ). c.args.value % k) (sym c.pow-divisor.ensures) ∙ c.if-value-divisor-ne0.false) c.within.result
    (subst (λ (k : ℕ). IsScaled (c.args.value / k) 0 0 c.within.result) c.pow-divisor.ensures c.within.ensures)

pub returns-then-value-from : goal.returns-then-value-from
returns-then-value-from c = large_up c.args.value c.args.decimals c.args.places (omega (arith, c.if-decimals-places.false)) (omega (arith, c.if-value-from.true, c.from.ensures))

pub returns : goal.returns
returns c =
    scaled_up c.args.value c.args.decimals c.args.places (omega (arith, c.if-decimals-places.false)) c.within-2.result
    (subst (λ (k : ℕ). IsScaled (c.args.value * k) 0 0 c.within-2.result) c.pow.ensures c.within-2.ensures)
