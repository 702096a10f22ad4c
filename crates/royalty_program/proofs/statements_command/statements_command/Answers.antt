use Rattle.std.proofs.lemmas.Result.{IfOk-weaker}
use Rattle.royalty_program.specs.StatementsCommand.{IsStatementsCommand}
use Rattle.royalty_program.proofs.StatementsLemmas.{adds_to_inputs}
use Rattle.royalty_program.proofs.statements_command.statements_command.Goals as goal

pub returns : goal.returns
returns c = IfOk-weaker c.with_document_args.result _ IsStatementsCommand (λ command added.
    adds_to_inputs c.in_ok-command.command c.in_ok-arg.field-0 command c.works_arg.result
    c.in_ok-command.ensures c.in_ok-arg.ensures c.works_arg.ensures.optional c.works_arg.ensures.rule added)
    c.with_document_args.ensures
