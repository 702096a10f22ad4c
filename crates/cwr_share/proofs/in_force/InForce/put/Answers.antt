use Rattle.std.proofs.Common.{◌≡◌, ◌∙◌, Vec, Global, None, ap, sym}
use Rattle.std.proofs.lemmas.Result.{on_ok_weaker}
use Rattle.cwr_share.specs.Registrations.{ShareLine, find_work}
use Rattle.cwr_share.proofs.InForceLemmas.{find_work_push, find_work_replaced, found_nowhere, found_place, table_replaced}
use Rattle.cwr_share.proofs.in_force.InForce.put.Goals as goal

pub invariant_of-self : goal.invariant_of-self
invariant_of-self c = table_replaced c.self.inside.works.keys c.self.inside.lists.items c.in-Some.place c.args.shares c.self.invariant c.requires.sound

pub add-requires-clause-new : goal.add-requires-clause-new
add-requires-clause-new c =
    rw (sym c.self.view_is)
    (found_nowhere c.args.work.items (λ (lines : Vec ShareLine Global). lines.items) c.self.inside.works.keys c.self.inside.lists.items c.in-None.ensures.index)

pub returns-in-Some : goal.returns-in-Some
returns-in-Some c = λ name.
    let works = c.self.inside.works.keys in
    let (known, place) = found_place c.args.work works c.in-Some.place c.in-Some.ensures.index in
    rw (sym c.self.view_is, place)
    (find_work_replaced works c.self.inside.lists.items c.args.work c.args.shares name c.self.invariant.paired known)

pub returns-in-None : goal.returns-in-None
returns-in-None c =
    let none : find_work c.args.work.items c.args.self.now ≡ None =
    rw (sym c.self.view_is)
    (found_nowhere c.args.work.items (λ (lines : Vec ShareLine Global). lines.items) c.self.inside.works.keys c.self.inside.lists.items c.in-None.ensures.index) in
    on_ok_weaker c.add.result (λ same name. ap (find_work name) same ∙ find_work_push name c.args.work.items c.args.self.now c.args.shares.items none) c.add.ensures
