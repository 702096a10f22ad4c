use Rattle.std.proofs.Common.{◌≡◌, ℕ, ◌*◌, ◌%◌, ap, sym, ◌∙◌, length, arith}
use Rattle.line_split.specs.Claims.{participants_of}
use Rattle.line_split.specs.FairSplit.{value_at}
use Rattle.line_split.specs.LargestRemainder.{remainder_of, comes_before}
use Rattle.line_split.proofs.SumBelow.{sum_below, bit, sum_below-last, from_bool-bit, bit-le}
use Rattle.line_split.proofs.Ranks.{comes_before_by}
use Rattle.line_split.proofs.Quotas.{remainders}
use Rattle.line_split.proofs.ClaimLemmas.{length-participants}
use Rattle.line_split.proofs.Places.{rank_is}
use Rattle.line_split.proofs.by_rank.rank_at.Goals as goal

pub loop-other-preserved : goal.loop-other-preserved
loop-other-preserved c =
    let mine = ap (remainder_of c.args.amount c.args.base) c.share_at.ensures.share in
    let theirs = ap (remainder_of c.args.amount c.args.base) c.share_at-in-loop-other.ensures.share in
    let test : c.comes_before.result ≡ comes_before_by (remainders c.args.amount c.args.base (value_at (participants_of c.args.claims.now))) c.loop-other.other c.args.place =
    c.comes_before.ensures
    ∙ (ap (λ (r : ℕ). comes_before (c.loop-other.other, r) (c.args.place, c.args.amount * c.share_at.result % c.args.base)) theirs
    ∙ ap (λ (r : ℕ). comes_before (c.loop-other.other, remainders c.args.amount c.args.base (value_at (participants_of c.args.claims.now)) c.loop-other.other) (c.args.place, r)) mine) in
    let one : c.from-rank.result ≡ bit (comes_before_by (remainders c.args.amount c.args.base (value_at (participants_of c.args.claims.now))) c.loop-other.other c.args.place) =
    c.from-rank.ensures ∙ (from_bool-bit c.comes_before.result ∙ ap bit test) in
    let more = sum_below-last c.loop-other.other (λ j. bit (comes_before_by (remainders c.args.amount c.args.base (value_at (participants_of c.args.claims.now))) j c.args.place)) in
    record {
      rank = omega (arith, one, more, c.loop-other.invariant.rank);
      few = omega (arith, bit-le (comes_before_by (remainders c.args.amount c.args.base (value_at (participants_of c.args.claims.now))) c.loop-other.other c.args.place), one, c.loop-other.invariant.few);
    }

pub returns-clause-rank : goal.returns-clause-rank
returns-clause-rank c =
    let all : c.loop-other.other ≡ length (participants_of c.args.claims.now) =
    omega (arith, length-participants c.args.claims.now, c.loop-other-test.false, c.loop-other.auto.other-end) in
    c.loop-other.invariant.rank
    ∙ (ap (λ (n : ℕ). sum_below n (λ j. bit (comes_before_by (remainders c.args.amount c.args.base (value_at (participants_of c.args.claims.now))) j c.args.place))) all
    ∙ sym (rank_is c.args.amount c.args.base (participants_of c.args.claims.now) c.args.place))
