use Rattle.usage_totals.proofs.ResidueLemmas.{residue_shown}
use Rattle.usage_totals.proofs.reasons.residue_portion.Goals as goal

pub bounds-list-place : goal.bounds-list-place
bounds-list-place c =
    (residue_shown c.args.amount c.args.claims.now.list c.list.result.now c.list-place.result.now c.requires.in_range c.list-place.ensures.sound (rw c.list.ensures c.split.ensures.portions) c.list-place.ensures.value).0

pub returns-clause-portion : goal.returns-clause-portion
returns-clause-portion c =
    (residue_shown c.args.amount c.args.claims.now.list c.list.result.now c.list-place.result.now c.requires.in_range c.list-place.ensures.sound (rw c.list.ensures c.split.ensures.portions) c.list-place.ensures.value).1

pub returns-clause-small : goal.returns-clause-small
returns-clause-small c =
    (residue_shown c.args.amount c.args.claims.now.list c.list.result.now c.list-place.result.now c.requires.in_range c.list-place.ensures.sound (rw c.list.ensures c.split.ensures.portions) c.list-place.ensures.value).2
