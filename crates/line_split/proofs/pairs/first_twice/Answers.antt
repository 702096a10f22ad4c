use Rattle.std.proofs.Common.{length}
use Rattle.std.proofs.lemmas.Bool.{iff_false}
use Rattle.line_split.specs.ClaimFault.{StandsBefore}
use Rattle.line_split.proofs.FirstPlaces.{first_here, none_more, none_all}
use Rattle.line_split.proofs.pairs.first_twice.Goals as goal

pub returns-then-stands_before-clause-found : goal.returns-then-stands_before-clause-found
returns-then-stands_before-clause-found c =
    (c.loop-place-test.true, first_here (StandsBefore c.args.list.now) c.loop-place.place c.loop-place.invariant (c.stands_before.ensures.0 c.if-stands_before.true))

pub loop-place-preserved : goal.loop-place-preserved
loop-place-preserved c =
    none_more (StandsBefore c.args.list.now) c.loop-place.place c.loop-place.invariant (iff_false c.stands_before.ensures c.if-stands_before.false)

pub returns-clause-none : goal.returns-clause-none
returns-clause-none c =
    none_all (StandsBefore c.args.list.now) c.loop-place.place c.loop-place.invariant (length c.args.list.now) c.loop-place-test.false (λ i holds. holds.0)
