use Rattle.std.proofs.Common.{map}
use Rattle.std.specs.Prelude.{string_bytes}
use Rattle.clap.proofs.TakesLemmas.{passed_up}
use Rattle.royalty_program.specs.Asked.{IsErrorOf}
use Rattle.royalty_program.specs.ExplainCommand.{explain_app}
use Rattle.royalty_program.proofs.ExplainLemmas.{explain_free, explain_names, explain_options, explain_simple, row_is, row_read}
use Rattle.royalty_program.proofs.InputLemmas.{finds_inputs}
use Rattle.royalty_program.proofs.OptionLemmas.{error_is, memory_is, rows_are}
use Rattle.royalty_program.proofs.explain_command.read_explain_of_one_file.Goals as goal

pub returns-in_err-matches-clause-error : goal.returns-in_err-matches-clause-error
returns-in_err-matches-clause-error c =
    let words = map string_bytes c.args.words.now in
    let command = c.in_ok-explain_command.field-0 in
    let is = error_is command explain_names explain_app words c.in_err-matches.field-0.0 (explain_options command c.in_ok-explain_command.ensures) explain_free c.in_err-matches.ensures.kinds in
    passed_up c.from_residual-in_err-matches.result c.in_err-matches.field-0.0 (IsErrorOf explain_app words) c.from_residual-in_err-matches.ensures.1 is

pub read_inputs-requires : goal.read_inputs-requires
read_inputs-requires c =
    let command = c.in_ok-explain_command.field-0 in
    let s = c.in_ok-explain_command.ensures in
    finds_inputs command c.in_ok-matches.matches _ _ explain_app s.inputs (explain_options command s) c.in_ok-matches.ensures.parsed

pub returns-in_err-explain_command-clause-error : goal.returns-in_err-explain_command-clause-error
returns-in_err-explain_command-clause-error c = memory_is explain_app (map string_bytes c.args.words.now) c.from_residual.result c.from_residual.ensures.1

pub returns-in_err-inputs-clause-error : goal.returns-in_err-inputs-clause-error
returns-in_err-inputs-clause-error c = memory_is explain_app (map string_bytes c.args.words.now) c.from_residual-in_err-inputs.result c.from_residual-in_err-inputs.ensures.1

pub unwrap-row-requires : goal.unwrap-row-requires
unwrap-row-requires c = (row_read c.in_ok-explain_command.field-0 c.in_ok-matches.matches c.get_one.result
    c.in_ok-explain_command.ensures c.in_ok-matches.ensures.parsed c.get_one.ensures.value).0

pub returns-clause-inputs : goal.returns-clause-inputs
returns-clause-inputs c =
    let command = c.in_ok-explain_command.field-0 in
    let m = c.in_ok-matches.matches in
    let words = map string_bytes c.args.words.now in
    let rows = rows_are command explain_names explain_app m words (explain_options command c.in_ok-explain_command.ensures) explain_simple c.in_ok-matches.ensures.matches in
    c.in_ok-inputs.ensures explain_app words rows

pub returns-clause-row : goal.returns-clause-row
returns-clause-row c =
    let command = c.in_ok-explain_command.field-0 in
    let m = c.in_ok-matches.matches in
    let words = map string_bytes c.args.words.now in
    let s = c.in_ok-explain_command.ensures in
    let rows = rows_are command explain_names explain_app m words (explain_options command s) explain_simple c.in_ok-matches.ensures.matches in
    row_is command m words c.get_one.result c.unwrap-row.result s c.in_ok-matches.ensures.parsed rows c.get_one.ensures.value c.unwrap-row.ensures
