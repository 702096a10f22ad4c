-- What the command that writes documents asks of its words, for a run over one CWR file and for one over the files of
-- several submitters.
use Rattle.std.specs.Prelude.{ℕ, ◌≡◌, ◌∷◌, ◌++◌, List, [], Some, codes, true, is_some}
use Rattle.clap.specs.Words.{App, Rule, first_value, found_of, new_app, with_rule}
use Rattle.clap.specs.declared.builder.arg.Arg.{Arg}
use Rattle.clap.specs.declared.builder.command.Command.{Command}
use Rattle.clap.specs.declared.builder.value_parser.ValueParser.TheVariants as vp
use Rattle.clap.specs.declared.parser.matches.ArgMatches.{ArgMatches}
use Rattle.split_run.specs.Plans.{MOST_NODES}
use Rattle.split_run.specs.declared.TheConstants.{MOST_THREADS}
use Rattle.royalty_program.specs.Args.{HasArgs, IsOptionalArg, IsRequiredArg, file_rule, optional_rule}
use Rattle.royalty_program.specs.InputCommand.{HasInputArgs, with_inputs}
use Rattle.royalty_program.specs.PlanWords.{MayFindNumber, MayFindPlan, with_optional_plan}
use Rattle.royalty_program.specs.SubmittedCommand.{HasSubmittedArgs, with_submitted}

-- the most decimal places that amounts may have
abbrev pub MOST_DECIMALS : ℕ
MOST_DECIMALS = 9

-- what a parse reads of the option of the decimal places
abbrev pub decimals_rule : Rule
decimals_rule = record (optional_rule (codes "decimals")) {
  parser = Some (vp.Unsigned 0 MOST_DECIMALS);
}

-- of the eight options that the command has beside those of the files of a run
abbrev pub with_documents : App → App
with_documents app =
    with_optional_plan (with_rule (with_rule (with_rule (with_rule (with_rule app (optional_rule (codes "names")))
    (file_rule (codes "to"))) (optional_rule (codes "title"))) (optional_rule (codes "currency"))) decimals_rule)

-- Of the command for a run over one file. Words with `--works` are of the other, so the option stands here for the help
-- alone.
abbrev pub statements_app : App
statements_app = with_documents (with_rule (with_inputs (new_app (codes "statements"))) (optional_rule (codes "works")))

-- and of that for a run over the files of several submitters
abbrev pub submitted_statements_app : App
submitted_statements_app = with_documents (with_submitted (new_app (codes "statements")))

-- the eight options: the path of the folder is needed, and each number has a range
pub record DocumentArgs : Type 0 where
  pub names : Arg
  pub to : Arg
  pub title : Arg
  pub currency : Arg
  pub decimals : Arg
  pub workers : Arg
  pub readers : Arg
  pub nodes : Arg
  pub may_have_names : IsOptionalArg (codes "names") names
  pub needs_to : IsRequiredArg (codes "to") to
  pub may_have_title : IsOptionalArg (codes "title") title
  pub may_have_currency : IsOptionalArg (codes "currency") currency
  pub may_have_decimals : IsOptionalArg (codes "decimals") decimals
  pub may_have_workers : IsOptionalArg (codes "workers") workers
  pub may_have_readers : IsOptionalArg (codes "readers") readers
  pub may_have_nodes : IsOptionalArg (codes "nodes") nodes
  pub few_decimals : decimals.value_parser ≡ Some (vp.Unsigned 0 MOST_DECIMALS)
  pub few_workers : workers.value_parser ≡ Some (vp.Unsigned 1 MOST_THREADS)
  pub few_readers : readers.value_parser ≡ Some (vp.Unsigned 1 MOST_THREADS)
  pub few_nodes : nodes.value_parser ≡ Some (vp.Unsigned 1 MOST_NODES)

abbrev pub args_in : DocumentArgs → List Arg
args_in a =
    a.names ∷ a.to ∷ a.title ∷ a.currency ∷ a.decimals ∷ a.workers ∷ a.readers ∷ a.nodes ∷ []

-- a command has the eight behind the arguments that it had
pub record AddsDocumentArgs (old new : Command) : Type 0 where
  pub own : DocumentArgs
  pub has : (before : List Arg) (app : App) → HasArgs old before app
      → HasArgs new (before ++ args_in own) (with_documents app)

-- The command for a run over one file has thirteen options: four paths, one of which need not be there, that of the
-- table of works, and the eight.
pub record IsStatementsCommand (c : Command) : Type 0 where
  pub works : Arg
  pub own : DocumentArgs
  pub may_have_works : IsOptionalArg (codes "works") works
  pub inputs : HasInputArgs c (works ∷ args_in own) statements_app

-- that for a run over the files of several submitters has their five, and the eight
pub record IsSubmittedStatementsCommand (c : Command) : Type 0 where
  pub own : DocumentArgs
  pub inputs : HasSubmittedArgs c (args_in own) submitted_statements_app

-- a parse found the path of the folder, and no number out of its range
pub record FindsDocuments (m : ArgMatches) : Type 0 where
  pub to : is_some (first_value (found_of m) (codes "to")) ≡ true
  pub decimals : MayFindNumber m (codes "decimals") 0 MOST_DECIMALS
  pub plan : MayFindPlan m
