use Rattle.std.proofs.Common.{◌∙◌, ap, refl, sym}
use Rattle.std.specs.Prelude.{option_copied}
use Rattle.document_names.proofs.FirstLemmas.{none_found, text_found}
use Rattle.document_names.proofs.first_texts.FirstTexts.text_of.Goals as goal

pub returns-in-Some : goal.returns-in-Some
returns-in-Some c =
    let found = sym (ap option_copied c.in-Some.is) ∙ c.get.ensures.value in
    c.as_slice.ensures ∙ (text_found c.self.inside.texts.entries c.args.key.now c.in-Some.text.now found ∙ rw c.self.view_is refl)

pub returns-in-None : goal.returns-in-None
returns-in-None c =
    let found = sym (ap option_copied c.in-None.is) ∙ c.get.ensures.value in
    none_found c.self.inside.texts.entries c.args.key.now found ∙ rw c.self.view_is refl
