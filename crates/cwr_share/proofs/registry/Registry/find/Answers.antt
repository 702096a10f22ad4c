use Rattle.std.proofs.Common.{◌∙◌, ap, arith, subst, sym}
use Rattle.cwr_share.specs.Compiled.{Kept, kept_lines, names_of}
use Rattle.cwr_share.specs.Found.{LookedUp}
use Rattle.cwr_share.specs.Registered.{Registered}
use Rattle.cwr_share.proofs.CompiledLemmas.{looked_up, registration_at}
use Rattle.cwr_share.proofs.InForceLemmas.{found_nowhere, found_too_long}
use Rattle.cwr_share.proofs.registry.Registry.find.Goals as goal

pub returns-in_err-number : goal.returns-in_err-number
returns-in_err-number c =
    rw (c.from_residual.ensures, ap (λ (r : Registered). r.works) (sym c.self.view_is))
    (found_too_long c.args.number.now (kept_lines (names_of c.self.inside.parties.accounts.entries)) c.self.inside.works.keys c.self.inside.registrations
    c.self.invariant.1.short c.in_err-number.ensures.none)

pub returns-in_err-place : goal.returns-in_err-place
returns-in_err-place c =
    rw (c.from_residual-in_err-place.ensures, ap (λ (r : Registered). r.works) (sym c.self.view_is), sym c.in_ok-number.ensures.some)
    (found_nowhere c.in_ok-number.number.items (kept_lines (names_of c.self.inside.parties.accounts.entries)) c.self.inside.works.keys c.self.inside.registrations c.in_err-place.ensures.index)

pub returns : goal.returns
returns c =
    let registrations = c.self.inside.registrations in
    let number = c.in_ok-number.number.items in
    let (registration, there) = registration_at registrations c.in_ok-place.place (omega (arith, c.in_ok-place.ensures.within, c.self.invariant.1.paired)) in
    let up = looked_up c.self.inside.works.keys registrations c.self.inside.parties.accounts.entries c.self.inside.parties.payees.items c.args.self.now number c.in_ok-place.place registration
    c.self.invariant.0 c.self.invariant.1 c.self.view_is c.in_ok-place.ensures.index c.in_ok-place.ensures.within there in
    record {
      registration = registration;
      up = subst (λ work. LookedUp c.args.self.now work registration) c.in_ok-number.ensures.some up;
      exact = c.lines_of.ensures registration ∙ ap (λ (r : Kept). r.lines) (sym there);
    }
