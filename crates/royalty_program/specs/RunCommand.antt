-- What the command of a run over one CWR file asks of its words.
use Rattle.std.specs.Prelude.{◌≡◌, ◌∷◌, [], Some, codes}
use Rattle.clap.specs.Words.{App, new_app, with_rule}
use Rattle.clap.specs.declared.builder.arg.Arg.{Arg}
use Rattle.clap.specs.declared.builder.command.Command.{Command}
use Rattle.clap.specs.declared.builder.value_parser.ValueParser.TheVariants as vp
use Rattle.split_run.specs.Plans.{MOST_NODES}
use Rattle.split_run.specs.declared.TheConstants.{MOST_THREADS}
use Rattle.royalty_program.specs.Args.{IsOptionalArg, IsRequiredArg, optional_rule}
use Rattle.royalty_program.specs.InputCommand.{HasInputArgs, with_inputs}
use Rattle.royalty_program.specs.PlanWords.{with_plan}

-- What a parse reads of the command. Words with `--works` are another command's, so the option stands here for the help alone.
abbrev pub run_app : App
run_app =
    with_rule (with_rule (with_plan (with_inputs (new_app (codes "run")))) (optional_rule (codes "output")))
    (optional_rule (codes "works"))

-- the command has nine options: four paths, one of which need not be there, three numbers, each up to its most, the path of the output, which need not be there,
-- and that of the table of works
pub record IsRunCommand (c : Command) : Type 0 where
  pub workers : Arg
  pub readers : Arg
  pub nodes : Arg
  pub output : Arg
  pub works : Arg
  pub needs_workers : IsRequiredArg (codes "workers") workers
  pub needs_readers : IsRequiredArg (codes "readers") readers
  pub needs_nodes : IsRequiredArg (codes "nodes") nodes
  pub may_have_output : IsOptionalArg (codes "output") output
  pub may_have_works : IsOptionalArg (codes "works") works
  pub few_workers : workers.value_parser ≡ Some (vp.Unsigned 1 MOST_THREADS)
  pub few_readers : readers.value_parser ≡ Some (vp.Unsigned 1 MOST_THREADS)
  pub few_nodes : nodes.value_parser ≡ Some (vp.Unsigned 1 MOST_NODES)
  pub inputs : HasInputArgs c (workers ∷ readers ∷ nodes ∷ output ∷ works ∷ []) run_app
