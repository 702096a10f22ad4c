use Rattle.std.proofs.Common.{◌∙◌, [], List, Vec, Global, Option, ap, arith, refl, subst, sym}
use Rattle.std.specs.Prelude.{unwrap_or}
use Rattle.cwr_share.specs.InForce.{AreShareLines}
use Rattle.cwr_share.specs.Registrations.{ShareLine, find_work}
use Rattle.cwr_share.proofs.FileLemmas.{share_lines_none}
use Rattle.cwr_share.proofs.InForceLemmas.{find_work_replaced, found_at, found_nowhere, found_place, table_replaced}
use Rattle.cwr_share.proofs.in_force.InForce.take.Goals as goal

pub invariant_of-self : goal.invariant_of-self
invariant_of-self c =
    table_replaced c.self.inside.works.keys c.self.inside.lists.items c.in-Some.place c.replace.new.dest c.self.invariant
    (subst AreShareLines (sym (ap (λ (lines : Vec ShareLine Global). lines.items) c.replace.ensures.after ∙ c.new.ensures.items)) share_lines_none)

pub returns-in-Some-clause-taken : goal.returns-in-Some-clause-taken
returns-in-Some-clause-taken c =
    let found = found_at c.args.work.now.items (λ (lines : Vec ShareLine Global). lines.items) c.self.inside.works.keys c.self.inside.lists.items c.in-Some.place c.index_mut.result.now
    c.self.invariant.paired c.in-Some.ensures.index c.index_mut.ensures.value in
    ap (λ (lines : Vec ShareLine Global). lines.items) c.replace.ensures.value
    ∙ ap (λ (found : Option (List ShareLine)). unwrap_or found []) (sym found ∙ ap (find_work c.args.work.now.items) c.self.view_is)

pub returns-in-Some-clause-sound : goal.returns-in-Some-clause-sound
returns-in-Some-clause-sound c =
    subst (λ (lines : Vec ShareLine Global). AreShareLines lines.items) (sym (c.replace.ensures.value ∙ c.index_mut.ensures.value))
    (c.self.invariant.each c.in-Some.place c.index_mut.result.now (omega (arith, c.in-Some.ensures.within, c.self.invariant.paired)))

pub returns-in-Some-clause-others : goal.returns-in-Some-clause-others
returns-in-Some-clause-others c = λ name other.
    let works = c.self.inside.works.keys in
    let (known, place) = found_place c.args.work.now works c.in-Some.place c.in-Some.ensures.index in
    rw (sym c.self.view_is, place)
    (find_work_replaced works c.self.inside.lists.items c.args.work.now c.replace.new.dest name c.self.invariant.paired known ∙ rw other refl)

pub returns-in-None-clause-taken : goal.returns-in-None-clause-taken
returns-in-None-clause-taken c =
    c.new-in-None.ensures.items
    ∙ ap (λ (found : Option (List ShareLine)). unwrap_or found [])
    (sym (found_nowhere c.args.work.now.items (λ (lines : Vec ShareLine Global). lines.items) c.self.inside.works.keys c.self.inside.lists.items c.in-None.ensures.index) ∙ ap (find_work c.args.work.now.items) c.self.view_is)
