use Rattle.std.proofs.Common.{arith}
use Rattle.cwr_share.proofs.ClaimLemmas.{no_line}
use Rattle.explain_line.proofs.ClaimedLemmas.{claim_end, claim_from}
use Rattle.explain_line.proofs.claimed.claim_of.Goals as goal

pub loop-place-preserved : goal.loop-place-preserved
loop-place-preserved c = record {
  sum = λ pay same.
      let sofar = c.loop-place.invariant.sum pay same in
      let from = claim_from c.args.tis.now c.args.land c.args.right pay c.args.payee.now c.args.shares.now c.loop-place.place c.loop-place-test.true in
      let here = c.claimed_at-claim.ensures.claimed pay no_line same in
      omega (arith, sofar, from, here);
  small = omega (arith, c.loop-place.invariant.small, c.claimed_at-claim.ensures.small);
}

pub returns : goal.returns
returns c = λ pay same.
    let sofar = c.loop-place.invariant.sum pay same in
    let none = claim_end c.args.tis.now c.args.land c.args.right pay c.args.payee.now c.args.shares.now c.loop-place.place (omega (arith, c.loop-place-test.false)) in
    omega (arith, sofar, none)
