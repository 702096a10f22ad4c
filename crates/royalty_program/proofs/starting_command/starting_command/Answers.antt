use Rattle.std.proofs.lemmas.Result.{IfOk-weaker}
use Rattle.royalty_program.specs.StartingCommand.{IsStartingCommand}
use Rattle.royalty_program.proofs.StartingLemmas.{adds_files}
use Rattle.royalty_program.proofs.starting_command.starting_command.Goals as goal

pub returns : goal.returns
returns c =
    IfOk-weaker c.arg.result _ (IsStartingCommand c.args.table) (λ command added.
    adds_files c.args.table c.in_ok-command_of.field-0 command c.files_arg.result c.in_ok-command_of.ensures added c.files_arg.ensures.optional c.files_arg.ensures.needed c.files_arg.ensures.rule)
    c.arg.ensures
