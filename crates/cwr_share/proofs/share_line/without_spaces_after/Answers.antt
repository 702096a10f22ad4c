use Rattle.std.proofs.Common.{arith, below_more}
use Rattle.cwr_share.proofs.FieldLemmas.{last_all_spaces, last_spaces_go, space_from_end}
use Rattle.cwr_share.proofs.share_line.without_spaces_after.Goals as goal

pub returns-then-text-end-ne32 : goal.returns-then-text-end-ne32
returns-then-text-end-ne32 c = last_spaces_go c.args.text.now c.loop-count.count c.loop-count-test.true c.loop-count.invariant c.if-text-end-ne32.true

pub loop-count-preserved : goal.loop-count-preserved
loop-count-preserved c =
    below_more _ _ c.loop-count.invariant (space_from_end c.args.text.now c.loop-count.count c.loop-count-test.true c.if-text-end-ne32.false)

pub returns : goal.returns
returns c = last_all_spaces c.args.text.now (λ k lt. c.loop-count.invariant k (omega (arith, lt)))
