use Rattle.std.proofs.Common.{map}
use Rattle.std.specs.Prelude.{string_bytes}
use Rattle.clap.proofs.TakesLemmas.{passed_up}
use Rattle.royalty_program.specs.Asked.{IsErrorOf}
use Rattle.royalty_program.specs.StatementsCommand.{statements_app}
use Rattle.royalty_program.proofs.InputLemmas.{finds_inputs}
use Rattle.royalty_program.proofs.OptionLemmas.{error_is, memory_is}
use Rattle.royalty_program.proofs.StatementsLemmas.{finds_documents, rows_of_statements, statements_free, statements_names, statements_options}
use Rattle.royalty_program.proofs.statements_command.read_statements_of_one_file.Goals as goal

pub returns-in_err-matches-clause-error : goal.returns-in_err-matches-clause-error
returns-in_err-matches-clause-error c =
    let words = map string_bytes c.args.words.now in
    let command = c.in_ok-statements_command.field-0 in
    let is = error_is command statements_names statements_app words c.in_err-matches.field-0.0 (statements_options command c.in_ok-statements_command.ensures) statements_free
    c.in_err-matches.ensures.kinds in
    passed_up c.from_residual-in_err-matches.result c.in_err-matches.field-0.0 (IsErrorOf statements_app words) c.from_residual-in_err-matches.ensures.1 is

pub read_inputs-requires : goal.read_inputs-requires
read_inputs-requires c =
    let command = c.in_ok-statements_command.field-0 in
    let s = c.in_ok-statements_command.ensures in
    finds_inputs command c.in_ok-matches.matches _ _ statements_app s.inputs (statements_options command s) c.in_ok-matches.ensures.parsed

pub read_chosen-requires : goal.read_chosen-requires
read_chosen-requires c = finds_documents c.in_ok-statements_command.field-0 c.in_ok-matches.matches c.in_ok-statements_command.ensures c.in_ok-matches.ensures.parsed

pub returns-in_err-statements_command-clause-error : goal.returns-in_err-statements_command-clause-error
returns-in_err-statements_command-clause-error c = memory_is statements_app (map string_bytes c.args.words.now) c.from_residual.result c.from_residual.ensures.1

pub returns-in_err-inputs-clause-error : goal.returns-in_err-inputs-clause-error
returns-in_err-inputs-clause-error c = memory_is statements_app (map string_bytes c.args.words.now) c.from_residual-in_err-inputs.result c.from_residual-in_err-inputs.ensures.1

pub returns-in_err-asked-clause-error : goal.returns-in_err-asked-clause-error
returns-in_err-asked-clause-error c = memory_is statements_app (map string_bytes c.args.words.now) c.from_residual-in_err-asked.result c.from_residual-in_err-asked.ensures.1

pub returns-clause-inputs : goal.returns-clause-inputs
returns-clause-inputs c =
    let words = map string_bytes c.args.words.now in
    let rows = rows_of_statements c.in_ok-statements_command.field-0 c.in_ok-matches.matches words c.in_ok-statements_command.ensures c.in_ok-matches.ensures.matches in
    rw c.in_ok-asked.ensures.inputs (c.in_ok-inputs.ensures statements_app words rows)

pub returns-clause-chosen : goal.returns-clause-chosen
returns-clause-chosen c =
    let words = map string_bytes c.args.words.now in
    c.in_ok-asked.ensures.chosen statements_app words
    (rows_of_statements c.in_ok-statements_command.field-0 c.in_ok-matches.matches words c.in_ok-statements_command.ensures c.in_ok-matches.ensures.matches)
