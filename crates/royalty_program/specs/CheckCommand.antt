-- What the command of a check asks of its words.
use Rattle.std.specs.Prelude.{◌∷◌, [], codes}
use Rattle.clap.specs.Words.{App, new_app, with_rule}
use Rattle.clap.specs.declared.builder.arg.Arg.{Arg}
use Rattle.clap.specs.declared.builder.command.Command.{Command}
use Rattle.royalty_program.specs.Args.{IsOptionalArg, optional_rule}
use Rattle.royalty_program.specs.InputCommand.{HasInputArgs, with_inputs}

-- What a parse reads of the command. Words with `--works` are another command's, so the option stands here for the help
-- alone.
abbrev pub check_app : App
check_app = with_rule (with_inputs (new_app (codes "check"))) (optional_rule (codes "works"))

-- the command has five options: four paths, one of which need not be there, and the path of the table of works
pub record IsCheckCommand (c : Command) : Type 0 where
  pub works : Arg
  pub may_have_works : IsOptionalArg (codes "works") works
  pub inputs : HasInputArgs c (works ∷ []) check_app
