-- What the command of an explanation asks of its words.
use Rattle.std.specs.Prelude.{◌≡◌, ◌∷◌, [], Some, codes}
use Rattle.clap.specs.Words.{App, new_app, with_rule}
use Rattle.clap.specs.declared.builder.arg.Arg.{Arg}
use Rattle.clap.specs.declared.builder.command.Command.{Command}
use Rattle.clap.specs.declared.builder.value_parser.ValueParser.TheVariants as vp
use Rattle.line_split.specs.declared.TheConstants.{MOST_LINES}
use Rattle.royalty_program.specs.Args.{IsOptionalArg, IsRequiredArg, number_rule, optional_rule}
use Rattle.royalty_program.specs.InputCommand.{HasInputArgs, with_inputs}

-- What a parse reads of the command. Words with `--works` are another command's, so the option stands here for the help alone.
abbrev pub explain_app : App
explain_app =
    with_rule (with_rule (with_inputs (new_app (codes "explain"))) (number_rule (codes "row") MOST_LINES))
    (optional_rule (codes "works"))

-- the command has six options: four paths, one of which need not be there, the number of a row, and the path of the table of works
pub record IsExplainCommand (c : Command) : Type 0 where
  pub row : Arg
  pub works : Arg
  pub needs_row : IsRequiredArg (codes "row") row
  pub may_have_works : IsOptionalArg (codes "works") works
  pub few_rows : row.value_parser ≡ Some (vp.Unsigned 1 MOST_LINES)
  pub inputs : HasInputArgs c (row ∷ works ∷ []) explain_app
