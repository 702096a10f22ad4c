use Rattle.std.proofs.Common.{◌≡◌, ℕ, ap, sym, ◌∙◌, length, arith}
use Rattle.line_split.specs.Claims.{participants_of}
use Rattle.line_split.specs.FairSplit.{value_at}
use Rattle.line_split.specs.LargestRemainder.{quota_of}
use Rattle.line_split.proofs.SumBelow.{sum_below, sum_below-last}
use Rattle.line_split.proofs.ClaimLemmas.{length-participants}
use Rattle.line_split.proofs.Division.{quota_fits_at}
use Rattle.line_split.proofs.Places.{units_left_is}
use Rattle.line_split.proofs.by_rank.left.Goals as goal

pub overflow_sub-left : goal.overflow_sub-left
overflow_sub-left c =
    let fits = quota_fits_at c.args.amount c.args.base c.args.claims.now c.loop-place.place c.requires.base c.loop-place-test.true in
    let here = ap (quota_of c.args.amount c.args.base) c.share_at.ensures.share in
    omega (arith, fits, here, c.loop-place.invariant)

pub loop-place-preserved : goal.loop-place-preserved
loop-place-preserved c =
    let fits = quota_fits_at c.args.amount c.args.base c.args.claims.now c.loop-place.place c.requires.base c.loop-place-test.true in
    let here = ap (quota_of c.args.amount c.args.base) c.share_at.ensures.share in
    let more = sum_below-last c.loop-place.place (λ j. quota_of c.args.amount c.args.base (value_at (participants_of c.args.claims.now) j)) in
    omega (arith, fits, here, more, c.loop-place.invariant)

pub returns : goal.returns
returns c =
    let all : c.loop-place.place ≡ length (participants_of c.args.claims.now) =
    omega (arith, length-participants c.args.claims.now, c.loop-place-test.false, c.loop-place.auto.place-end) in
    let sum = ap (λ (n : ℕ). sum_below n (λ j. quota_of c.args.amount c.args.base (value_at (participants_of c.args.claims.now) j))) all in
    omega (arith, sum, c.loop-place.invariant) ∙ sym (units_left_is c.args.amount c.args.base (participants_of c.args.claims.now))
