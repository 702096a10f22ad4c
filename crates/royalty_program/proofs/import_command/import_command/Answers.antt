use Rattle.std.proofs.lemmas.Result.{IfOk-weaker}
use Rattle.royalty_program.specs.ImportCommand.{IsImportCommand}
use Rattle.royalty_program.proofs.ImportLemmas.{adds_all}
use Rattle.royalty_program.proofs.import_command.import_command.Goals as goal

pub returns : goal.returns
returns c = IfOk-weaker c.with_targets.result _ IsImportCommand (λ command added.
    adds_all c.in_ok-command.command c.in_ok-command-2.command c.in_ok-command-3.command c.in_ok-command-4.command command
    c.in_ok-command.ensures c.in_ok-command-2.ensures c.in_ok-command-3.ensures c.in_ok-command-4.ensures added)
    c.with_targets.ensures
