use Rattle.line_split.specs.declared.TheConstants.{MOST_LINES}
use Rattle.royalty_program.proofs.OptionLemmas.{narrowed}
use Rattle.royalty_program.proofs.explain_command.row_arg.Goals as goal

pub returns-clause-rule : goal.returns-clause-rule
returns-clause-rule c =
    let row = narrowed c.value_parser.result c.range.result _ _ MOST_LINES c.value_parser.ensures c.range.ensures c.new.ensures.start c.new.ensures.end in
    rw row at c.number_arg.ensures.rule

pub returns-clause-few : goal.returns-clause-few
returns-clause-few c =
    let row = narrowed c.value_parser.result c.range.result _ _ MOST_LINES c.value_parser.ensures c.range.ensures c.new.ensures.start c.new.ensures.end in
    rw row at c.number_arg.ensures.in_range
