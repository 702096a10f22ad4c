use Rattle.std.proofs.Common.{◌∙◌, ap}
use Rattle.std.specs.List.{list_any}
use Rattle.std.specs.Prelude.{string_bytes}
use Rattle.clap.proofs.WalkLemmas.{list_any-map}
use Rattle.royalty_program.specs.Asked.{is_works_word}
use Rattle.royalty_program.proofs.Shifted.{mapped_others, others}
use Rattle.royalty_program.proofs.submitted_command.names_works.Goals as goal

pub returns : goal.returns
returns c =
    let words = c.args.words.now in
    c.have_works.ensures ∙ (list_any-map is_works_word string_bytes (others words) ∙ ap (list_any is_works_word) (mapped_others string_bytes words))
