use Rattle.std.proofs.Common.{◌≡◌, ◌∙◌, ◌==◌, ◌||◌, ◌∷◌, [], Bool, List, ap, not, refl, rules, tests}
use Rattle.std.specs.List.{list_any}
use Rattle.std.proofs.lemmas.Iterator.{YieldsList-from_slice}
use Rattle.std.proofs.lemmas.Iterator.Search.{any_from_yields_List}
use Rattle.line_split.specs.declared.TheConstants.{FULL_SHARE}
use Rattle.payee_documents.specs.Notes.{is_over}
use Rattle.payee_portions.specs.Shown.{portions_shown}
use Rattle.payee_portions.specs.declared.portion.Portion.{Portion}
use Rattle.payee_documents.proofs.notes.is_any_over.Goals as goal

abbrev has_over : Portion → Bool
has_over portion = not (portion.base == FULL_SHARE)

as_shown : (portions : List Portion) → list_any has_over portions ≡ is_over (portions_shown portions)
as_shown [] = refl
as_shown (portion ∷ portions) = ap (λ (later : Bool). has_over portion || later) (as_shown portions)

pub returns : goal.returns
returns c =
    any_from_yields_List has_over _ _ c.any.result c.any.ensures.ran (YieldsList-from_slice c.args.portions.now cc) (λ x b q k. search (rules, tests))
    ∙ as_shown c.args.portions.now
