use Rattle.std.proofs.Common.{◌∙◌, ap, sym}
use Rattle.std.specs.Prelude.{None, Some, option_copied}
use Rattle.value_maps.proofs.Found.{value_found}
use Rattle.value_maps.proofs.value_map.ValueMap.value_of.Goals as goal

pub returns-in-Some-clause-some : goal.returns-in-Some-clause-some
returns-in-Some-clause-some c =
    let found = sym (ap option_copied c.in-Some.is) ∙ c.get.ensures.value in
    let same = ap (λ values. values.rows) c.self.view_is in
    value_found c.self.inside.rows.entries c.args.self.now.rows c.args.from.now (Some c.in-Some.to.now) same found ∙ ap Some (sym c.as_slice.ensures)

pub returns-in-None-clause-none : goal.returns-in-None-clause-none
returns-in-None-clause-none c =
    let found = sym (ap option_copied c.in-None.is) ∙ c.get.ensures.value in
    let same = ap (λ values. values.rows) c.self.view_is in
    value_found c.self.inside.rows.entries c.args.self.now.rows c.args.from.now None same found
