use Rattle.std.proofs.Common.{◌∙◌, Option, ap, sym}
use Rattle.std.specs.Borrow.{Bor}
use Rattle.std.specs.Option.{option_map, unwrap_or}
use Rattle.std.specs.Prelude.{List, ℕ}
use Rattle.royalty_program.specs.ImportCommand.{import_app}
use Rattle.royalty_program.proofs.OptionalLemmas.{text_or_is}
use Rattle.royalty_program.proofs.import_command.value_or.Goals as goal

pub returns-in-Some : goal.returns-in-Some
returns-in-Some c = λ words rows.
    ap (λ (o : Option (Bor (List ℕ))). unwrap_or (option_map (λ (s : Bor (List ℕ)). s.now) o) c.args.missing.now) (sym c.in-Some.is)
    ∙ text_or_is c.args.missing.now import_app c.args.matches.now words c.args.name.now c.get_str.result rows c.get_str.ensures

pub returns-in-None : goal.returns-in-None
returns-in-None c = λ words rows.
    ap (λ (o : Option (Bor (List ℕ))). unwrap_or (option_map (λ (s : Bor (List ℕ)). s.now) o) c.args.missing.now) (sym c.in-None.is)
    ∙ text_or_is c.args.missing.now import_app c.args.matches.now words c.args.name.now c.get_str.result rows c.get_str.ensures
