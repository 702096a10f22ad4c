-- What the command of a division asks of its words.
use Rattle.std.specs.Prelude.{◌≡◌, ◌∷◌, [], Some, true, codes}
use Rattle.clap.specs.Words.{App, Rule, new_app, new_rule, with_rule}
use Rattle.clap.specs.Lexer.{usize_max}
use Rattle.clap.specs.declared.builder.action.ArgAction.TheVariants.{Set}
use Rattle.clap.specs.declared.builder.arg.Arg.{Arg}
use Rattle.clap.specs.declared.builder.command.Command.{Command}
use Rattle.clap.specs.declared.builder.value_parser.ValueParser.TheVariants as vp
use Rattle.line_split.specs.declared.TheConstants.{MOST_AMOUNT}
use Rattle.royalty_program.specs.Args.{HasArgs, IsRequiredArg}

-- what a parse reads of the two arguments, and of the command
abbrev pub amount_rule : Rule
amount_rule = record (new_rule (codes "AMOUNT")) {
  action = Some Set;
  parser = Some (vp.Unsigned 0 MOST_AMOUNT);
  required = true;
}

abbrev pub pairs_rule : Rule
pairs_rule = record (new_rule (codes "PARTY=SHARE")) {
  action = Some Set;
  range = Some (record { start_inclusive = 1; end_inclusive = usize_max });
  required = true;
}

abbrev pub split_app : App
split_app = with_rule (with_rule (new_app (codes "split")) amount_rule) pairs_rule

-- the command has two arguments: the amount, a number up to the most, and the words PARTY=SHARE
pub record IsSplitCommand (c : Command) : Type 0 where
  pub amount : Arg
  pub pairs : Arg
  pub needs_amount : IsRequiredArg (codes "AMOUNT") amount
  pub in_range : amount.value_parser ≡ Some (vp.Unsigned 0 MOST_AMOUNT)
  pub needs_pairs : IsRequiredArg (codes "PARTY=SHARE") pairs
  pub has : HasArgs c (amount ∷ pairs ∷ []) split_app
