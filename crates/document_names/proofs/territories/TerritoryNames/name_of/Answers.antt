use Rattle.std.proofs.Common.{◌∙◌, ap, refl, sym}
use Rattle.std.specs.Prelude.{option_copied}
use Rattle.document_names.proofs.CodeLemmas.{name_found, none_found}
use Rattle.document_names.proofs.territories.TerritoryNames.name_of.Goals as goal

pub returns-in-Some : goal.returns-in-Some
returns-in-Some c =
    let found = sym (ap option_copied c.in-Some.is) ∙ c.get.ensures.value in
    c.as_slice.ensures ∙ (name_found c.self.inside.names.entries c.args.code c.in-Some.name.now found ∙ rw c.self.view_is refl)

pub returns-in-None : goal.returns-in-None
returns-in-None c =
    let found = sym (ap option_copied c.in-None.is) ∙ c.get.ensures.value in
    none_found c.self.inside.names.entries c.args.code found ∙ rw c.self.view_is refl
