use Rattle.cwr_share.proofs.ClaimLemmas.{known_is}
use Rattle.usage_totals.proofs.reasons.knows.Goals as goal

pub returns : goal.returns
returns c = rw c.in-Some.ensures.some.0 at (known_is c.args.tis.now c.in-Some.code c.known.result c.known.ensures)
