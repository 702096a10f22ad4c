use Rattle.std.proofs.Common.{◌≤◌, ◌<◌, ◌+◌, ◌*◌, ℕ, List, arith, length, slice_index_or, take}
use Rattle.std.proofs.lemmas.Int.Digits.{digits_more, digits_value_more}
use Rattle.std.proofs.lemmas.Str.Parse.{digit_at, digit_from_value, digits_value-take-le}
use Rattle.std.proofs.lemmas.Str.{digit_value_digit}
use Rattle.std.specs.Char.{digit_value}
use Rattle.std.specs.Str.Parse.{digits_value}
use Rattle.csv_table.specs.Forms.{IsNumber}
use Rattle.csv_table.proofs.forms.number_up_to.Goals as goal

pub returns-then-not-is_ascii_digit-clause-none : goal.returns-then-not-is_ascii_digit-clause-none
returns-then-not-is_ascii_digit-clause-none c = λ written.
    let digit = digit_at c.args.field.now c.loop-byte.byte-index written.digits.1 c.loop-byte-test.true in
    omega (arith, digit, c.if-not-is_ascii_digit.ensures.cases)

-- the digits so far and the next one write no more than all of them
next_small : (most : ℕ) (field : List ℕ) (i : ℕ) → i < length field → IsNumber most field
    → digits_value 10 (take i field) * 10 + digit_value (slice_index_or field i 0) ≤ most
next_small most field i inside written =
    omega (arith, digits_value_more 10 field i inside, digits_value-take-le 10 field (i + 1) (omega arith), written.small)

pub returns-in_default-clause-none : goal.returns-in_default-clause-none
returns-in_default-clause-none c = λ written.
    let small = next_small c.args.most c.args.field.now c.loop-byte.byte-index c.loop-byte-test.true written in
    c.in_default.ensures (omega (arith, small, c.loop-byte.invariant.number, c.ranges.most.fits))

pub returns-in_default-checked_add-clause-none : goal.returns-in_default-checked_add-clause-none
returns-in_default-checked_add-clause-none c = λ written.
    let small = next_small c.args.most c.args.field.now c.loop-byte.byte-index c.loop-byte-test.true written in
    let digit = digit_at c.args.field.now c.loop-byte.byte-index written.digits.1 c.loop-byte-test.true in
    let value = digit_value_digit (slice_index_or c.args.field.now c.loop-byte.byte-index 0) digit in
    c.in_default-checked_add.ensures (omega (arith, small, value, c.loop-byte.invariant.number, c.ranges.most.fits, c.from.ensures, c.in-Some.ensures))

pub loop-byte-preserved : goal.loop-byte-preserved
loop-byte-preserved c =
    let field = c.args.field.now in
    let i = c.loop-byte.byte-index in
    let small = c.if-not-is_ascii_digit.ensures.bound in
    let value = digit_value_digit (slice_index_or field i 0) (digit_from_value (slice_index_or field i 0) small) in
    record {
      digits = digits_more 10 field i c.loop-byte-test.true c.loop-byte.invariant.digits small;
      number = omega (
        arith,
        digits_value_more 10 field i c.loop-byte-test.true,
        value,
        c.loop-byte.invariant.number,
        c.from.ensures,
        c.in-Some.ensures,
        c.in-Some-checked_add.ensures,
      );
    }
