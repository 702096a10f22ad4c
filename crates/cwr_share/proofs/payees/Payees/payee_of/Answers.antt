use Rattle.std.proofs.Common.{arith, length, ◌∙◌, ℕ, List, ap, refl, sym}
use Rattle.std.specs.Prelude.{option_copied}
use Rattle.cwr_share.proofs.PayeeLemmas.{paid_as_found, paid_named, paid_itself}
use Rattle.cwr_share.proofs.payees.Payees.payee_of.Goals as goal

pub returns-in-Some-clause-payee : goal.returns-in-Some-clause-payee
returns-in-Some-clause-payee c =
    let found = sym (ap option_copied c.in-Some.is) ∙ c.get.ensures.value in
    c.as_slice.ensures
    ∙ (paid_as_found c.self.inside.rows.entries c.args.party.now c.in-Some.payee.now found
    ∙ rw c.self.view_is refl)

pub returns-in-Some-clause-named : goal.returns-in-Some-clause-named
returns-in-Some-clause-named c = λ some.
    let found = sym (ap option_copied c.in-Some.is) ∙ c.get.ensures.value in
    omega (arith, ap (λ (text : List ℕ). length text) c.as_slice.ensures, paid_named c.self.inside.rows.entries c.args.party.now c.in-Some.payee.now found c.self.invariant)

pub returns-in-None-clause-payee : goal.returns-in-None-clause-payee
returns-in-None-clause-payee c =
    let found = sym (ap option_copied c.in-None.is) ∙ c.get.ensures.value in
    paid_itself c.self.inside.rows.entries c.args.party.now found ∙ rw c.self.view_is refl
