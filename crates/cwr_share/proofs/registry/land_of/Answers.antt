use Rattle.std.proofs.Common.{sym, ◌∙◌}
use Rattle.cwr_share.proofs.ClaimLemmas.{known_is, out_of_range}
use Rattle.cwr_share.proofs.registry.land_of.Goals as goal

pub returns-in_default-clause-none : goal.returns-in_default-clause-none
returns-in_default-clause-none c = out_of_range c.args.tis.now c.args.code c.len.ensures.sound c.in_default.ensures.none

pub returns-then-known-clause-some : goal.returns-then-known-clause-some
returns-then-known-clause-some c =
    let same = c.in-Some.ensures.some.0 in
    (same, sym (rw same at (known_is c.args.tis.now c.in-Some.land c.known.result c.known.ensures)) ∙ c.if-known.true)

pub returns-else-known-clause-none : goal.returns-else-known-clause-none
returns-else-known-clause-none c =
    sym (rw c.in-Some.ensures.some.0 at (known_is c.args.tis.now c.in-Some.land c.known.result c.known.ensures)) ∙ c.if-known.false
