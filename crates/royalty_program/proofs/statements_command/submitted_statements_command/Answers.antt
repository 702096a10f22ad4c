use Rattle.std.proofs.lemmas.Result.{IfOk-weaker}
use Rattle.royalty_program.specs.StatementsCommand.{IsSubmittedStatementsCommand}
use Rattle.royalty_program.proofs.StatementsLemmas.{adds_to_submitted}
use Rattle.royalty_program.proofs.statements_command.submitted_statements_command.Goals as goal

pub returns : goal.returns
returns c = IfOk-weaker c.with_document_args.result _ IsSubmittedStatementsCommand (λ command added.
    adds_to_submitted c.in_ok-command.command command c.in_ok-command.ensures added)
    c.with_document_args.ensures
