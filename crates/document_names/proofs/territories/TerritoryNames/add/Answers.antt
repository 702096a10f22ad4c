use Rattle.std.proofs.Common.{◌≡◌, ◌∙◌, ℕ, List, refl, subst, sym}
use Rattle.indexmap.proofs.CallerLemmas.{insert_entry-new}
use Rattle.std.specs.Prelude.{nat_eq}
use Rattle.document_names.specs.Territories.{HasRow}
use Rattle.document_names.proofs.CodeLemmas.{none_if_no_row}
use Rattle.document_names.proofs.territories.TerritoryNames.add.Goals as goal

pub returns : goal.returns
returns c =
    let none = none_if_no_row c.self.inside.names.entries c.args.code
    (subst (λ (names : List (ℕ × List ℕ)). ¬ HasRow names c.args.code) (sym c.self.view_is) c.requires) in
    let new = insert_entry-new nat_eq c.self.inside.names c.args.code c.in_ok-of.field-0 none in
    c.in_ok-insert.ensures.entries ∙ new ∙ rw (c.self.view_is, c.in_ok-of.ensures) refl
