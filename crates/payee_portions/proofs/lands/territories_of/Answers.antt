use Rattle.payee_portions.proofs.LandLemmas.{territories_more}
use Rattle.payee_portions.proofs.lands.territories_of.Goals as goal

pub loop-place-preserved : goal.loop-place-preserved
loop-place-preserved c =
    territories_more c.args.list.now c.loop-place.place _ c.loop-place.codes.items c.note.new.codes.items c.loop-place-test.true c.loop-place.invariant
    c.in_ok-note.ensures.rising c.in_ok-note.ensures.kept c.in_ok-note.ensures.noted c.in_ok-note.ensures.no_other
