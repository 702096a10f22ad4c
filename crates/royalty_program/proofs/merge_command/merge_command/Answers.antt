use Rattle.std.proofs.lemmas.Result.{IfOk-weaker}
use Rattle.royalty_program.specs.MergeCommand.{IsMergeCommand}
use Rattle.royalty_program.proofs.MergeLemmas.{adds_both}
use Rattle.royalty_program.proofs.merge_command.merge_command.Goals as goal

pub returns : goal.returns
returns c =
    IfOk-weaker c.arg-2.result _ IsMergeCommand (λ command added.
    adds_both c.in_ok-new_command.field-0 c.in_ok-arg.field-0 command c.optional_file_arg.result c.statements_arg.result
    c.in_ok-new_command.ensures c.in_ok-arg.ensures added c.optional_file_arg.ensures.optional c.statements_arg.ensures.needed
    c.optional_file_arg.ensures.rule c.statements_arg.ensures.rule)
    c.arg-2.ensures
