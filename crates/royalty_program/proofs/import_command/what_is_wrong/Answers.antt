use Rattle.std.proofs.Common.{codes}
use Rattle.royalty_program.proofs.ImportLemmas.{sound_of, texts_are, wrong_conditions}
use Rattle.royalty_program.proofs.import_command.what_is_wrong.Goals as goal

pub returns-then-not-are_conditions-clause-wrong : goal.returns-then-not-are_conditions-clause-wrong
returns-then-not-are_conditions-clause-wrong c = λ some words rows.
    wrong_conditions words _ c.are_conditions.result (texts_are c.args.matches.now words (codes "where") c.get_strs.result rows c.get_strs.ensures)
    c.are_conditions.ensures c.if-not-are_conditions.true

pub returns-clause-sound : goal.returns-clause-sound
returns-clause-sound c = λ none words rows.
    sound_of words _ c.value_or.result.now c.value_or-2.result.now c.are_conditions.result c.is_delimiter.result c.is_digit.result
    (texts_are c.args.matches.now words (codes "where") c.get_strs.result rows c.get_strs.ensures)
    (c.value_or.ensures words rows) (c.value_or-2.ensures words rows) c.are_conditions.ensures c.is_delimiter.ensures c.is_digit.ensures
    c.if-not-are_conditions.false c.if-not-is_delimiter.false c.if-not-is_digit.false
