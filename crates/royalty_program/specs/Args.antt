-- What a command asks of an argument that a parse must find, and of one that it may find.
use Rattle.std.specs.Prelude.{◌≡◌, List, Some, false, true, ℕ}
use Rattle.clap.specs.Words.{App, IsPlain, IsPlainArg, Rule, app_of, args_of, new_rule}
use Rattle.clap.specs.Built.{TakesValue}
use Rattle.clap.specs.declared.builder.action.ArgAction.TheVariants.{Set}
use Rattle.clap.specs.declared.builder.arg.Arg.{Arg}
use Rattle.clap.specs.declared.builder.command.Command.{Command}
use Rattle.clap.specs.declared.builder.command.Command.TheViews.{out-Command as fields_of}
use Rattle.clap.specs.declared.builder.value_parser.ValueParser.TheVariants as vp

-- an argument with this id, which excludes nothing
pub record IsOptionalArg (name : List ℕ) (a : Arg) : Type 0 where
  pub id : a.id.now ≡ name
  pub plain : IsPlainArg a
  pub local : a.global ≡ false

-- a required argument with this id, which takes a value and excludes nothing
pub record IsRequiredArg (name : List ℕ) (a : Arg) : Type 0 where
  pub id : a.id.now ≡ name
  pub value : TakesValue a
  pub plain : IsPlainArg a
  pub local : a.global ≡ false

-- what a parse reads of an option with a file's path
abbrev pub file_rule : List ℕ → Rule
file_rule name = record (new_rule name) {
  long = Some name;
  action = Some Set;
  value_names = 1;
  required = true;
}

-- of one that need not be there
abbrev pub optional_rule : List ℕ → Rule
optional_rule name = record (file_rule name) {
  required = false;
}

-- of an option with a number from 1 to the most
abbrev pub number_rule : List ℕ → ℕ → Rule
number_rule name most = record (file_rule name) {
  parser = Some (vp.Unsigned 1 most);
}

-- and of one that need not be there
abbrev pub optional_number_rule : List ℕ → ℕ → Rule
optional_number_rule name most = record (number_rule name most) {
  required = false;
}

-- the command has these arguments, and nothing that changes how words are read
pub record HasArgs (c : Command) (args : List Arg) (app : App) : Type 0 where
  pub list : args_of c ≡ args
  pub plain : IsPlain c
  pub globals : (fields_of c).has_globals ≡ false
  pub negates : (fields_of c).subcommand_negates_reqs ≡ false
  pub shape : app_of c ≡ app
