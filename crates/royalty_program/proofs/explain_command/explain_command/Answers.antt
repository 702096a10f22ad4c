use Rattle.std.proofs.lemmas.Result.{IfOk-weaker}
use Rattle.royalty_program.specs.ExplainCommand.{IsExplainCommand}
use Rattle.royalty_program.proofs.ExplainLemmas.{adds_row_and_works}
use Rattle.royalty_program.proofs.explain_command.explain_command.Goals as goal

pub returns : goal.returns
returns c = IfOk-weaker c.arg-2.result _ IsExplainCommand (λ command added.
    adds_row_and_works c.in_ok-input_command.field-0 c.in_ok-arg.field-0 command c.row_arg.result c.works_arg.result
    c.in_ok-input_command.ensures c.in_ok-arg.ensures added c.row_arg.ensures.needed c.works_arg.ensures.optional
    c.row_arg.ensures.rule c.works_arg.ensures.rule c.row_arg.ensures.few)
    c.arg-2.ensures
