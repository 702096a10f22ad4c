use Rattle.std.proofs.Common.{Vec, Global, arith, sym}
use Rattle.cwr_share.specs.Registrations.{ShareLine}
use Rattle.cwr_share.proofs.InForceLemmas.{found_at, found_nowhere, found_too_long}
use Rattle.cwr_share.proofs.in_force.InForce.find.Goals as goal

pub returns-in_err-name-clause-none : goal.returns-in_err-name-clause-none
returns-in_err-name-clause-none c =
    rw (c.from_residual.ensures, sym c.self.view_is)
    (found_too_long c.args.work.now (λ (lines : Vec ShareLine Global). lines.items) c.self.inside.works.keys c.self.inside.lists.items c.self.invariant.short c.in_err-name.ensures.none)

pub returns-in_err-place-clause-none : goal.returns-in_err-place-clause-none
returns-in_err-place-clause-none c =
    rw (c.from_residual-in_err-place.ensures, sym c.self.view_is, sym c.in_ok-name.ensures.some)
    (found_nowhere c.in_ok-name.name.items (λ (lines : Vec ShareLine Global). lines.items) c.self.inside.works.keys c.self.inside.lists.items c.in_err-place.ensures.index)

pub returns-clause-some : goal.returns-clause-some
returns-clause-some c =
    rw (sym c.self.view_is, sym c.in_ok-name.ensures.some, c.as_slice.ensures.value)
    (found_at c.in_ok-name.name.items (λ (lines : Vec ShareLine Global). lines.items) c.self.inside.works.keys c.self.inside.lists.items c.in_ok-place.place c.index.result.now
    c.self.invariant.paired c.in_ok-place.ensures.index c.index.ensures)

pub returns-clause-sound : goal.returns-clause-sound
returns-clause-sound c =
    rw (c.as_slice.ensures.value, c.index.ensures)
    (c.self.invariant.each c.in_ok-place.place c.index.result.now (omega (arith, c.in_ok-place.ensures.within, c.self.invariant.paired)))
