use Rattle.std.proofs.lemmas.Result.{IfOk-weaker}
use Rattle.royalty_program.specs.SubmittedCommand.{IsSubmittedExplainCommand}
use Rattle.royalty_program.proofs.SubmittedLemmas.{adds_row_too}
use Rattle.royalty_program.proofs.submitted_command.submitted_explain_command.Goals as goal

pub returns : goal.returns
returns c = IfOk-weaker c.arg.result _ IsSubmittedExplainCommand (λ command added.
    adds_row_too c.in_ok-submitted_input_command.field-0 command c.row_arg.result c.in_ok-submitted_input_command.ensures added
    c.row_arg.ensures.needed c.row_arg.ensures.rule c.row_arg.ensures.few)
    c.arg.ensures
