use Rattle.std.proofs.Common.{◌≡◌, ◌≤◌, ◌+ℤ◌, ap, arith, false, get_or, int_lt, pos, to_z, true, unsigned_abs, w64}
use Rattle.std.proofs.lemmas.Int.{ints, to_z-of_z}
use Rattle.line_split.proofs.IntSums.{size_plus}
use Rattle.line_split.specs.declared.TheConstants.{MOST_AMOUNT}
use Rattle.payee_portions.specs.Reversals.{is_reversal}
use Rattle.payee_portions.proofs.FilterLemmas.{no_portion, sum_with, sum_without}
use Rattle.payee_portions.proofs.reversals.sum_of_reversals.Goals as goal
use Rattle.payee_portions.proofs.reversals.sum_of_reversals.Goals.{then-list-place-lt0, else-list-place-lt0}

pub loop-place-preserved : goal.loop-place-preserved
loop-place-preserved c =
    let place = c.loop-place.place in
    let portion = get_or c.args.list.now place no_portion in
    let sum = to_z w64 c.loop-place.sum-bits in
    let next = to_z w64 c.if-list-place-lt0.sum-bits in
    let so_far = c.loop-place.invariant.small in
    let small : unsigned_abs portion.amount ≤ MOST_AMOUNT = c.requires.small place no_portion c.loop-place-test.true in
    elim c.if-list-place-lt0.branch [
      | then-list-place-lt0 w ↦
          let more : next ≡ sum +ℤ portion.amount = omega (arith, ints) in
          let is : int_lt portion.line.amount (pos 0) ≡ true = grind (arith, ints, to_z-of_z) in record {
            sum = sum_with is_reversal c.args.list.now place no_portion sum next c.loop-place-test.true c.loop-place.invariant.sum is more;
            small = omega (arith, ap unsigned_abs more, size_plus sum portion.amount _ _ so_far small);
          }
      | else-list-place-lt0 w ↦
          let isnt : int_lt portion.line.amount (pos 0) ≡ false = grind (arith, ints, to_z-of_z) in record {
            sum = sum_without is_reversal c.args.list.now place no_portion sum next c.loop-place-test.true c.loop-place.invariant.sum isnt w.sum-is;
            small = omega (arith, ap unsigned_abs w.sum-is, so_far);
          }
    ]
