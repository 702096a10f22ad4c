-- What a command asks of its words that reads the files of a run.
use Rattle.std.specs.Prelude.{◌≡◌, ◌∷◌, List, true, codes, is_some}
use Rattle.clap.specs.Words.{App, first_value, found_of, with_rule}
use Rattle.clap.specs.declared.builder.arg.Arg.{Arg}
use Rattle.clap.specs.declared.builder.command.Command.{Command}
use Rattle.clap.specs.declared.parser.matches.ArgMatches.{ArgMatches}
use Rattle.royalty_program.specs.Args.{HasArgs, IsOptionalArg, IsRequiredArg, file_rule, optional_rule}

-- what a parse reads of the four options that name the files
abbrev pub with_inputs : App → App
with_inputs app =
    with_rule (with_rule (with_rule (with_rule app (file_rule (codes "tis"))) (optional_rule (codes "payees"))) (file_rule (codes "cwr"))) (file_rule (codes "usage"))

-- the command has these options, one of which need not be there, and more arguments behind them
pub record HasInputArgs (c : Command) (more : List Arg) (app : App) : Type 0 where
  pub tis : Arg
  pub payees : Arg
  pub cwr : Arg
  pub usage : Arg
  pub needs_tis : IsRequiredArg (codes "tis") tis
  pub may_have_payees : IsOptionalArg (codes "payees") payees
  pub needs_cwr : IsRequiredArg (codes "cwr") cwr
  pub needs_usage : IsRequiredArg (codes "usage") usage
  pub has : HasArgs c (tis ∷ payees ∷ cwr ∷ usage ∷ more) app

-- a parse found the paths that are needed
pub record FindsInputs (m : ArgMatches) : Type 0 where
  pub tis : is_some (first_value (found_of m) (codes "tis")) ≡ true
  pub cwr : is_some (first_value (found_of m) (codes "cwr")) ≡ true
  pub usage : is_some (first_value (found_of m) (codes "usage")) ≡ true
