-- What the commands of a run over the files of several submitters, and of an explanation and a check of one, ask of
-- their words.
use Rattle.std.specs.Prelude.{◌≡◌, ◌∷◌, List, [], Some, codes, true, is_some, ℕ}
use Rattle.clap.specs.Words.{App, Rule, first_value, found_of, matched_of, new_app, with_rule}
use Rattle.clap.specs.declared.builder.action.ArgAction.TheVariants.{Append}
use Rattle.clap.specs.declared.builder.arg.Arg.{Arg}
use Rattle.clap.specs.declared.builder.command.Command.{Command}
use Rattle.clap.specs.declared.builder.value_parser.ValueParser.TheVariants as vp
use Rattle.clap.specs.declared.parser.matches.ArgMatches.{ArgMatches}
use Rattle.line_split.specs.declared.TheConstants.{MOST_LINES}
use Rattle.split_run.specs.Plans.{MOST_NODES}
use Rattle.split_run.specs.declared.TheConstants.{MOST_THREADS}
use Rattle.royalty_program.specs.Args.{HasArgs, IsOptionalArg, IsRequiredArg, file_rule, number_rule, optional_rule}
use Rattle.royalty_program.specs.PlanWords.{with_plan}

-- what a parse reads of an option that names one file more each time that it stands
abbrev pub files_rule : List ℕ → Rule
files_rule name = record (file_rule name) {
  action = Some Append;
}

-- of the five options that name the tables and the files
abbrev pub with_submitted : App → App
with_submitted app =
    with_rule (with_rule (with_rule (with_rule (with_rule app (file_rule (codes "tis"))) (optional_rule (codes "payees")))
    (file_rule (codes "works"))) (files_rule (codes "cwr"))) (file_rule (codes "usage"))

-- of the command of a run
abbrev pub submitted_app : App
submitted_app = with_rule (with_plan (with_submitted (new_app (codes "run")))) (optional_rule (codes "output"))

-- and of that of an explanation
abbrev pub submitted_explain_app : App
submitted_explain_app = with_rule (with_submitted (new_app (codes "explain"))) (number_rule (codes "row") MOST_LINES)

-- and of that of a check
abbrev pub submitted_check_app : App
submitted_check_app = with_submitted (new_app (codes "check"))

-- the command has these options, of which the table of payees need not be there, and more arguments behind them
pub record HasSubmittedArgs (c : Command) (more : List Arg) (app : App) : Type 0 where
  pub tis : Arg
  pub payees : Arg
  pub works : Arg
  pub cwr : Arg
  pub usage : Arg
  pub needs_tis : IsRequiredArg (codes "tis") tis
  pub may_have_payees : IsOptionalArg (codes "payees") payees
  pub needs_works : IsRequiredArg (codes "works") works
  pub has_cwr : IsOptionalArg (codes "cwr") cwr
  pub needs_cwr : cwr.required ≡ true
  pub needs_usage : IsRequiredArg (codes "usage") usage
  pub has : HasArgs c (tis ∷ payees ∷ works ∷ cwr ∷ usage ∷ more) app

-- a parse found the paths that are needed, and values of `--cwr`
pub record FindsTables (m : ArgMatches) : Type 0 where
  pub tis : is_some (first_value (found_of m) (codes "tis")) ≡ true
  pub works : is_some (first_value (found_of m) (codes "works")) ≡ true
  pub usage : is_some (first_value (found_of m) (codes "usage")) ≡ true
  pub files : is_some (matched_of (found_of m) (codes "cwr")) ≡ true

-- the command of such a run has nine options: the five, three numbers, each up to its most, and the path of the output
pub record IsSubmittedCommand (c : Command) : Type 0 where
  pub workers : Arg
  pub readers : Arg
  pub nodes : Arg
  pub output : Arg
  pub needs_workers : IsRequiredArg (codes "workers") workers
  pub needs_readers : IsRequiredArg (codes "readers") readers
  pub needs_nodes : IsRequiredArg (codes "nodes") nodes
  pub may_have_output : IsOptionalArg (codes "output") output
  pub few_workers : workers.value_parser ≡ Some (vp.Unsigned 1 MOST_THREADS)
  pub few_readers : readers.value_parser ≡ Some (vp.Unsigned 1 MOST_THREADS)
  pub few_nodes : nodes.value_parser ≡ Some (vp.Unsigned 1 MOST_NODES)
  pub inputs : HasSubmittedArgs c (workers ∷ readers ∷ nodes ∷ output ∷ []) submitted_app

-- that of such an explanation has six: the five, and the number of a row
pub record IsSubmittedExplainCommand (c : Command) : Type 0 where
  pub row : Arg
  pub needs_row : IsRequiredArg (codes "row") row
  pub few_rows : row.value_parser ≡ Some (vp.Unsigned 1 MOST_LINES)
  pub inputs : HasSubmittedArgs c (row ∷ []) submitted_explain_app

-- that of such a check has the five
abbrev pub IsSubmittedCheckCommand : Command → Type 0
IsSubmittedCheckCommand c = HasSubmittedArgs c [] submitted_check_app
