use Rattle.std.proofs.Common.{ℕ, arith}
use Rattle.std.proofs.lemmas.List.Sums.{sum_by_more_le}
use Rattle.line_split.proofs.ClaimLemmas.{total_small}
use Rattle.line_split.proofs.portions.total.Goals as goal

pub overflow_add-total : goal.overflow_add-total
overflow_add-total c =
    let so_far = sum_by_more_le (λ (claim : ℕ × ℕ). claim.1) c.args.claims.now c.loop-claim.claim-index (0, 0) c.loop-claim-test.true in
    omega (arith, so_far, total_small c.args.claims.now c.requires)
