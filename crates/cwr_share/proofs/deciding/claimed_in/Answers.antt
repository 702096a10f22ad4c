use Rattle.std.proofs.Common.{arith}
use Rattle.cwr_share.proofs.ClaimLemmas.{no_line}
use Rattle.cwr_share.proofs.Decided.{claimed_end, claimed_from}
use Rattle.cwr_share.proofs.deciding.claimed_in.Goals as goal

pub loop-place-preserved : goal.loop-place-preserved
loop-place-preserved c = record {
  sum =
      let from = claimed_from c.args.tis.now c.args.land c.args.right c.args.shares.now c.loop-place.place c.loop-place-test.true in
      let here = c.claimed_at-claim.ensures.claimed no_line in
      omega (arith, c.loop-place.invariant.sum, from, here);
  small = omega (arith, c.loop-place.invariant.small, c.claimed_at-claim.ensures.small);
}

pub returns-clause-claimed : goal.returns-clause-claimed
returns-clause-claimed c =
    let none = claimed_end c.args.tis.now c.args.land c.args.right c.args.shares.now c.loop-place.place (omega (arith, c.loop-place-test.false)) in
    omega (arith, c.loop-place.invariant.sum, none)
