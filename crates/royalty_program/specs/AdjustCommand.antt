-- What the command of an adjustment asks of its words.
use Rattle.std.specs.Prelude.{ℕ, ◌≡◌, ◌∷◌, List, [], Some, codes, true}
use Rattle.clap.specs.Words.{App, Rule, new_app, new_rule, with_rule}
use Rattle.clap.specs.declared.builder.action.ArgAction.TheVariants.{Set}
use Rattle.clap.specs.declared.builder.arg.Arg.{Arg}
use Rattle.clap.specs.declared.builder.command.Command.{Command}
use Rattle.royalty_program.specs.Args.{HasArgs, IsOptionalArg, IsRequiredArg, optional_rule}

-- what a parse reads of the path of a text, which is no option, and of the command
abbrev pub text_rule : List ℕ → Rule
text_rule name = record (new_rule name) { action = Some Set; required = true }

abbrev pub adjust_app : App
adjust_app = with_rule (with_rule (with_rule (new_app (codes "adjust")) (optional_rule (codes "output")))
    (text_rule (codes "PAID"))) (text_rule (codes "RIGHT"))

-- the command has three arguments: the path of the output, which need not be there, and those of the two texts
pub record IsAdjustCommand (c : Command) : Type 0 where
  pub output : Arg
  pub paid : Arg
  pub right : Arg
  pub may_have_output : IsOptionalArg (codes "output") output
  pub needs_paid : IsRequiredArg (codes "PAID") paid
  pub needs_right : IsRequiredArg (codes "RIGHT") right
  pub has : HasArgs c (output ∷ paid ∷ right ∷ []) adjust_app
