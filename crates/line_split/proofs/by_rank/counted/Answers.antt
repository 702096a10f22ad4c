use Rattle.std.proofs.Common.{◌≡◌, cond, leb, false, sym, ap, ◌∙◌}
use Rattle.std.proofs.lemmas.Bool.{lt-leb}
use Rattle.line_split.specs.declared.TheConstants.{MOST_CLAIMED}
use Rattle.line_split.proofs.ClaimLemmas.{counted_by_limit}
use Rattle.line_split.proofs.by_rank.counted.Goals as goal

pub returns-else-claimed-le-MOST_CLAIMED : goal.returns-else-claimed-le-MOST_CLAIMED
returns-else-claimed-le-MOST_CLAIMED c =
    let over : leb c.total-claimed.result MOST_CLAIMED ≡ false = lt-leb c.total-claimed.result MOST_CLAIMED c.if-claimed-le-MOST_CLAIMED.false in
    sym (counted_by_limit c.args.claims.now c.total-claimed.result c.total-claimed.ensures
    ∙ ap (λ b. cond b c.total-claimed.result 0) over)
