use Rattle.std.proofs.Common.{◌<◌, ◌+◌, ◌*◌, ◌^◌, ℕ, arith, refl}
use Rattle.std.proofs.lemmas.Bool.{false≢true}
use Rattle.std.proofs.lemmas.Grind.{pow_more}
use Rattle.decimal_amounts.proofs.Numbers.{value_digit, value_other}
use Rattle.decimal_amounts.proofs.Powers.{pow_fits, pow_most}
use Rattle.decimal_amounts.proofs.digits.digits_in.Goals as goal
use Rattle.decimal_amounts.proofs.digits.digits_in.Goals.{then-is_digit, else-is_digit}

-- ten times a number of so many digits has one more, and fits
tens_fit : (n i : ℕ) → n < 10 ^ i → i < 38 → n * 10 + 9 < 2 ^ 128
tens_fit n i small low = omega (arith, small, pow_more 10 i, pow_fits (i + 1) (omega (arith, low)))

pub overflow_mul-value : goal.overflow_mul-value
overflow_mul-value c = omega (arith, tens_fit c.loop-byte.value c.loop-byte.byte-index c.loop-byte.invariant.small (omega (arith, c.loop-byte-test.true, c.requires)))

pub overflow_add-value : goal.overflow_add-value
overflow_add-value c =
    omega (
      arith,
      tens_fit c.loop-byte.value c.loop-byte.byte-index c.loop-byte.invariant.small (omega (arith, c.loop-byte-test.true, c.requires)),
      c.from.ensures,
      (c.if-is_digit.ensures.0 refl).1,
    )

pub loop-byte-preserved : goal.loop-byte-preserved
loop-byte-preserved c =
    let text = c.args.text.now in
    let i = c.loop-byte.byte-index in
    let within = c.loop-byte-test.true in
    elim c.if-is_digit.branch [
      | then-is_digit w ↦ record {
        value = omega (arith, w.value-is, w.from.ensures, value_digit text i within (w.if-is_digit.ensures.0 refl), c.loop-byte.invariant.value);
        small = omega (arith, w.value-is, w.from.ensures, (w.if-is_digit.ensures.0 refl).1, c.loop-byte.invariant.small, pow_more 10 i);
      }
      | else-is_digit w ↦ record {
        value = omega (arith, w.value-is, value_other text i within (λ digit. false≢true (w.if-is_digit.ensures.1 digit)), c.loop-byte.invariant.value);
        small = omega (arith, w.value-is, c.loop-byte.invariant.small, pow_more 10 i);
      }
    ]

pub returns-clause-small : goal.returns-clause-small
returns-clause-small c = omega (arith, c.loop-byte.invariant.small, pow_most c.loop-byte.byte-index (omega (arith, c.loop-byte-test.false, c.loop-byte.auto.byte-index-end, c.requires)))
