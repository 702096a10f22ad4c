use Rattle.std.proofs.Common.{codes, subst, List, ℕ}
use Rattle.clap.specs.Words.{raw_values}
use Rattle.royalty_program.specs.Asked.{submitted_given}
use Rattle.royalty_program.specs.NamedFiles.{AreNamed}
use Rattle.royalty_program.proofs.OptionLemmas.{values_are}
use Rattle.royalty_program.proofs.SplitLemmas.{some_of_map}
use Rattle.royalty_program.proofs.SubmittedLemmas.{named_by_words, same_submitted}
use Rattle.royalty_program.proofs.submitted_command.read_submitted_inputs.Goals as goal

pub unwrap-requires : goal.unwrap-requires
unwrap-requires c = some_of_map _ raw_values c.get_strs.result _ c.get_strs.ensures c.requires.files

pub returns-in-Ok-clause-inputs : goal.returns-in-Ok-clause-inputs
returns-in-Ok-clause-inputs c = λ app words rows.
    let given = values_are _ app c.args.matches.now words (codes "cwr") c.get_strs.result c.unwrap.result rows c.get_strs.ensures c.unwrap.ensures in
    let named = named_by_words app words _ _ given (rw c.in-Ok.is at c.in_ok-files.ensures.named) in
    same_submitted (submitted_given app words) _ _ _ (c.in_ok-tables.ensures app words rows) named.names named.paths

pub returns-in-Ok-clause-named : goal.returns-in-Ok-clause-named
returns-in-Ok-clause-named c = λ app words rows.
    let given = values_are _ app c.args.matches.now words (codes "cwr") c.get_strs.result c.unwrap.result rows c.get_strs.ensures c.unwrap.ensures in
    (named_by_words app words _ _ given (rw c.in-Ok.is at c.in_ok-files.ensures.named)).named

pub returns-in-Err-clause-wrong : goal.returns-in-Err-clause-wrong
returns-in-Err-clause-wrong c = λ app words rows.
    let given = values_are _ app c.args.matches.now words (codes "cwr") c.get_strs.result c.unwrap.result rows c.get_strs.ensures c.unwrap.ensures in
    subst (λ (values : List (List ℕ)). ¬ AreNamed values) given (rw c.in-Err.is at c.in_ok-files.ensures.wrong)
