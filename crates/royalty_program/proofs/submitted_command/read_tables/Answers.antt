use Rattle.std.proofs.Common.{◌∙◌, codes}
use Rattle.clap.proofs.CallerLemmas.{some_of_text}
use Rattle.royalty_program.proofs.OptionLemmas.{path_if_is, path_is}
use Rattle.royalty_program.proofs.SubmittedFileLemmas.{same_tables}
use Rattle.royalty_program.proofs.submitted_command.read_tables.Goals as goal

pub unwrap-requires : goal.unwrap-requires
unwrap-requires c = some_of_text _ c.get_str.result _ c.get_str.ensures c.requires.tis

pub unwrap-requires-2 : goal.unwrap-requires-2
unwrap-requires-2 c = some_of_text _ c.get_str-3.result _ c.get_str-3.ensures c.requires.works

pub unwrap-requires-3 : goal.unwrap-requires-3
unwrap-requires-3 c = some_of_text _ c.get_str-4.result _ c.get_str-4.ensures c.requires.usage

pub returns : goal.returns
returns c = λ app words rows.
    let m = c.args.matches.now in
    same_tables
    (c.in_ok-territories.ensures.ok ∙ path_is app m words (codes "tis") c.get_str.result c.unwrap.result rows c.get_str.ensures c.unwrap.ensures)
    (c.in_ok-payees.ensures ∙ path_if_is app m words (codes "payees") c.get_str-2.result rows c.get_str-2.ensures)
    (c.in_ok-works.ensures.ok ∙ path_is app m words (codes "works") c.get_str-3.result c.unwrap-2.result rows c.get_str-3.ensures c.unwrap-2.ensures)
    (c.in_ok-usage.ensures.ok ∙ path_is app m words (codes "usage") c.get_str-4.result c.unwrap-3.result rows c.get_str-4.ensures c.unwrap-3.ensures)
