use Rattle.std.proofs.Common.{◌∙◌, List, Option, ap, sym, ℕ}
use Rattle.std.specs.Borrow.{Bor}
use Rattle.std.specs.List.{list_all}
use Rattle.std.proofs.lemmas.List.Folds.{list_all-map}
use Rattle.royalty_program.specs.ImportCommand.{is_condition, texts_of}
use Rattle.royalty_program.proofs.import_command.are_conditions.Goals as goal

pub returns-in-Some : goal.returns-in-Some
returns-in-Some c =
    c.are_all_conditions.ensures ∙ sym (list_all-map is_condition (λ (value : Bor (List ℕ)). value.now) c.in-Some.values.now)
    ∙ ap (λ (o : Option (Bor (List (Bor (List ℕ))))). list_all is_condition (texts_of o)) (sym c.in-Some.is)
