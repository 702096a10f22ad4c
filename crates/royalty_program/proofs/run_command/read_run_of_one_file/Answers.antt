use Rattle.std.proofs.Common.{◌∙◌, codes, map}
use Rattle.std.specs.Prelude.{string_bytes}
use Rattle.clap.proofs.TakesLemmas.{passed_up}
use Rattle.royalty_program.specs.Asked.{IsErrorOf}
use Rattle.royalty_program.specs.RunCommand.{run_app}
use Rattle.royalty_program.proofs.InputLemmas.{finds_inputs}
use Rattle.royalty_program.proofs.OptionLemmas.{error_is, memory_is, path_if_is}
use Rattle.royalty_program.proofs.RunLemmas.{finds_plan, rows_of_run, run_names, run_options}
use Rattle.royalty_program.proofs.RunWalked.{run_free}
use Rattle.royalty_program.proofs.run_command.read_run_of_one_file.Goals as goal

pub returns-in_err-matches-clause-error : goal.returns-in_err-matches-clause-error
returns-in_err-matches-clause-error c =
    let words = map string_bytes c.args.words.now in
    let command = c.in_ok-run_command.field-0 in
    let is = error_is command run_names run_app words c.in_err-matches.field-0.0 (run_options command c.in_ok-run_command.ensures) run_free c.in_err-matches.ensures.kinds in
    passed_up c.from_residual-in_err-matches.result c.in_err-matches.field-0.0 (IsErrorOf run_app words) c.from_residual-in_err-matches.ensures.1 is

pub read_inputs-requires : goal.read_inputs-requires
read_inputs-requires c =
    let command = c.in_ok-run_command.field-0 in
    let s = c.in_ok-run_command.ensures in
    finds_inputs command c.in_ok-matches.matches _ _ run_app s.inputs (run_options command s) c.in_ok-matches.ensures.parsed

pub read_plan-plan-requires : goal.read_plan-plan-requires
read_plan-plan-requires c = finds_plan c.in_ok-run_command.field-0 c.in_ok-matches.matches c.in_ok-run_command.ensures c.in_ok-matches.ensures.parsed

pub returns-in_err-run_command-clause-error : goal.returns-in_err-run_command-clause-error
returns-in_err-run_command-clause-error c = memory_is run_app (map string_bytes c.args.words.now) c.from_residual.result c.from_residual.ensures.1

pub returns-in_err-inputs-clause-error : goal.returns-in_err-inputs-clause-error
returns-in_err-inputs-clause-error c = memory_is run_app (map string_bytes c.args.words.now) c.from_residual-in_err-inputs.result c.from_residual-in_err-inputs.ensures.1

pub returns-in_err-output-clause-error : goal.returns-in_err-output-clause-error
returns-in_err-output-clause-error c = memory_is run_app (map string_bytes c.args.words.now) c.from_residual-in_err-output.result c.from_residual-in_err-output.ensures.1

pub returns-clause-inputs : goal.returns-clause-inputs
returns-clause-inputs c =
    let words = map string_bytes c.args.words.now in
    c.in_ok-inputs.ensures run_app words (rows_of_run c.in_ok-run_command.field-0 c.in_ok-matches.matches words c.in_ok-run_command.ensures c.in_ok-matches.ensures.matches)

pub returns-clause-plan : goal.returns-clause-plan
returns-clause-plan c =
    let words = map string_bytes c.args.words.now in
    c.read_plan-plan.ensures run_app words (rows_of_run c.in_ok-run_command.field-0 c.in_ok-matches.matches words c.in_ok-run_command.ensures c.in_ok-matches.ensures.matches)

pub returns-clause-output : goal.returns-clause-output
returns-clause-output c =
    let words = map string_bytes c.args.words.now in
    let rows = rows_of_run c.in_ok-run_command.field-0 c.in_ok-matches.matches words c.in_ok-run_command.ensures c.in_ok-matches.ensures.matches in
    c.in_ok-output.ensures ∙ path_if_is run_app c.in_ok-matches.matches words (codes "output") c.get_str.result rows c.get_str.ensures
