use Rattle.std.proofs.lemmas.Result.{IfOk-weaker}
use Rattle.royalty_program.specs.SplitCommand.{IsSplitCommand}
use Rattle.royalty_program.proofs.SplitLemmas.{adds_two}
use Rattle.royalty_program.proofs.split_command.split_command.Goals as goal

pub returns : goal.returns
returns c =
    IfOk-weaker c.arg-2.result _ IsSplitCommand (λ command added.
    adds_two c.in_ok-new_command.field-0 c.in_ok-arg.field-0 command c.amount_arg.result c.pairs_arg.result
    c.in_ok-new_command.ensures c.in_ok-arg.ensures added c.amount_arg.ensures.needed c.amount_arg.ensures.in_range c.pairs_arg.ensures.needed
    c.amount_arg.ensures.rule c.pairs_arg.ensures.rule)
    c.arg-2.ensures
