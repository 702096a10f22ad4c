use Rattle.std.proofs.Common.{map}
use Rattle.std.specs.Prelude.{string_bytes}
use Rattle.clap.proofs.TakesLemmas.{passed_up}
use Rattle.royalty_program.specs.Asked.{IsErrorOf}
use Rattle.royalty_program.specs.CheckCommand.{check_app}
use Rattle.royalty_program.proofs.CheckLemmas.{check_free, check_names, check_options, check_simple}
use Rattle.royalty_program.proofs.InputLemmas.{finds_inputs}
use Rattle.royalty_program.proofs.OptionLemmas.{error_is, memory_is, rows_are}
use Rattle.royalty_program.proofs.check_command.read_check_of_one_file.Goals as goal

pub returns-in_err-matches-clause-error : goal.returns-in_err-matches-clause-error
returns-in_err-matches-clause-error c =
    let words = map string_bytes c.args.words.now in
    let command = c.in_ok-check_command.field-0 in
    let is = error_is command check_names check_app words c.in_err-matches.field-0.0 (check_options command c.in_ok-check_command.ensures) check_free c.in_err-matches.ensures.kinds in
    passed_up c.from_residual-in_err-matches.result c.in_err-matches.field-0.0 (IsErrorOf check_app words) c.from_residual-in_err-matches.ensures.1 is

pub read_inputs-requires : goal.read_inputs-requires
read_inputs-requires c =
    let command = c.in_ok-check_command.field-0 in
    let s = c.in_ok-check_command.ensures in
    finds_inputs command c.in_ok-matches.matches _ _ check_app s.inputs (check_options command s) c.in_ok-matches.ensures.parsed

pub returns-in_err-check_command-clause-error : goal.returns-in_err-check_command-clause-error
returns-in_err-check_command-clause-error c = memory_is check_app (map string_bytes c.args.words.now) c.from_residual.result c.from_residual.ensures.1

pub returns-in_err-inputs-clause-error : goal.returns-in_err-inputs-clause-error
returns-in_err-inputs-clause-error c = memory_is check_app (map string_bytes c.args.words.now) c.from_residual-in_err-inputs.result c.from_residual-in_err-inputs.ensures.1

pub returns-clause-inputs : goal.returns-clause-inputs
returns-clause-inputs c =
    let command = c.in_ok-check_command.field-0 in
    let words = map string_bytes c.args.words.now in
    c.in_ok-inputs.ensures check_app words
    (rows_are command check_names check_app c.in_ok-matches.matches words (check_options command c.in_ok-check_command.ensures) check_simple c.in_ok-matches.ensures.matches)
