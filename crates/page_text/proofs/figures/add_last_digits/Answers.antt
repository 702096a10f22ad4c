use Rattle.std.proofs.Common.{◌-◌, arith}
use Rattle.std.proofs.Math.Nat.{one-le-pow}
use Rattle.page_text.proofs.Figuring.{digits_end, digits_step}
use Rattle.page_text.proofs.figures.add_last_digits.Goals as goal

pub nonzero_div-number : goal.nonzero_div-number
nonzero_div-number c = omega (arith, one-le-pow (c.loop-left.left - 1) 10 (omega arith))

pub loop-left-preserved : goal.loop-left-preserved
loop-left-preserved c =
    let step = digits_step c.loop-left.left c.args.number c.loop-left-test.true c.loop-left.text.items _ c.loop-left.invariant.1 in
    (omega arith, rw (c.in_ok-push.ensures.items, c.pow.ensures) step)

pub returns : goal.returns
returns c = digits_end c.loop-left.left c.args.number (omega arith) c.loop-left.text.items _ c.loop-left.invariant.1
