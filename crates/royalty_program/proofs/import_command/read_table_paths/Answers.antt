use Rattle.std.proofs.Common.{◌∙◌, [], codes}
use Rattle.royalty_program.specs.ImportCommand.{import_app}
use Rattle.royalty_program.proofs.OptionalLemmas.{text_or_is}
use Rattle.royalty_program.proofs.import_command.read_table_paths.Goals as goal

pub returns : goal.returns
returns c = λ words rows.
    let m = c.args.matches.now in record {
      export = c.in_ok-export.ensures ∙ text_or_is [] import_app m words (codes "EXPORT") c.get_str.result rows c.get_str.ensures;
      output = c.in_ok-output.ensures ∙ text_or_is [] import_app m words (codes "output") c.get_str-2.result rows c.get_str-2.ensures;
      rejects = c.in_ok-rejects.ensures ∙ text_or_is [] import_app m words (codes "rejects") c.get_str-3.result rows c.get_str-3.ensures;
    }
