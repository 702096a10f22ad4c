use Rattle.std.proofs.lemmas.Result.{IfOk-weaker}
use Rattle.royalty_program.specs.AdjustCommand.{IsAdjustCommand}
use Rattle.royalty_program.proofs.AdjustLemmas.{adds_three}
use Rattle.royalty_program.proofs.adjust_command.adjust_command.Goals as goal

pub returns : goal.returns
returns c =
    IfOk-weaker c.arg-3.result _ IsAdjustCommand (λ command added.
    adds_three c.in_ok-new_command.field-0 c.in_ok-arg.field-0 c.in_ok-arg-2.field-0 command c.optional_file_arg.result c.text_arg.result c.text_arg-2.result
    c.in_ok-new_command.ensures c.in_ok-arg.ensures c.in_ok-arg-2.ensures added
    c.optional_file_arg.ensures.optional c.text_arg.ensures.needed c.text_arg-2.ensures.needed
    c.optional_file_arg.ensures.rule c.text_arg.ensures.rule c.text_arg-2.ensures.rule)
    c.arg-3.ensures
