use Rattle.std.proofs.lemmas.Result.{IfOk-weaker}
use Rattle.royalty_program.specs.CheckCommand.{IsCheckCommand}
use Rattle.royalty_program.proofs.CheckLemmas.{adds_works}
use Rattle.royalty_program.proofs.check_command.check_command.Goals as goal

pub returns : goal.returns
returns c = IfOk-weaker c.arg.result _ IsCheckCommand (λ command added.
    adds_works c.in_ok-input_command.field-0 command c.works_arg.result c.in_ok-input_command.ensures added c.works_arg.ensures.optional c.works_arg.ensures.rule)
    c.arg.ensures
