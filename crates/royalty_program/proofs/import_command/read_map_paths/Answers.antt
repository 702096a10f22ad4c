use Rattle.std.proofs.Common.{◌∙◌, codes}
use Rattle.royalty_program.specs.ImportCommand.{import_app}
use Rattle.royalty_program.proofs.OptionLemmas.{path_if_is}
use Rattle.royalty_program.proofs.import_command.read_map_paths.Goals as goal

pub returns : goal.returns
returns c = λ words rows.
    let m = c.args.matches.now in record {
      works = c.in_ok-works.ensures ∙ path_if_is import_app m words (codes "works") c.get_str.result rows c.get_str.ensures;
      territories = c.in_ok-territories.ensures ∙ path_if_is import_app m words (codes "territories") c.get_str-2.result rows c.get_str-2.ensures;
      rights = c.in_ok-rights.ensures ∙ path_if_is import_app m words (codes "rights") c.get_str-3.result rows c.get_str-3.ensures;
    }
