use Rattle.std.proofs.Common.{inl, inr, map}
use Rattle.std.specs.Prelude.{string_bytes}
use Rattle.clap.proofs.TakesLemmas.{passed_up}
use Rattle.royalty_program.specs.Asked.{IsSubmittedError}
use Rattle.royalty_program.specs.StatementsCommand.{submitted_statements_app}
use Rattle.royalty_program.proofs.OptionLemmas.{error_is}
use Rattle.royalty_program.proofs.StatementsLemmas.{finds_submitted_documents, rows_of_submitted_statements, submitted_statements_free, submitted_statements_names, submitted_statements_options}
use Rattle.royalty_program.proofs.SubmittedLemmas.{accepted_by, finds_tables, memory_of_files}
use Rattle.royalty_program.proofs.statements_command.read_submitted_statements.Goals as goal

pub returns-in_err-matches-clause-error : goal.returns-in_err-matches-clause-error
returns-in_err-matches-clause-error c =
    let words = map string_bytes c.args.words.now in
    let command = c.in_ok-submitted_statements_command.field-0 in
    let is = error_is command submitted_statements_names submitted_statements_app words c.in_err-matches.field-0.0
    (submitted_statements_options command c.in_ok-submitted_statements_command.ensures) submitted_statements_free c.in_err-matches.ensures.kinds in
    passed_up c.from_residual-in_err-matches.result c.in_err-matches.field-0.0 (IsSubmittedError submitted_statements_app words) c.from_residual-in_err-matches.ensures.1 (inl is)

pub read_submitted_inputs-requires : goal.read_submitted_inputs-requires
read_submitted_inputs-requires c =
    let command = c.in_ok-submitted_statements_command.field-0 in
    let s = c.in_ok-submitted_statements_command.ensures in
    finds_tables command c.in_ok-matches.matches _ _ submitted_statements_app s.inputs (submitted_statements_options command s) c.in_ok-matches.ensures.parsed

pub read_chosen-requires : goal.read_chosen-requires
read_chosen-requires c = finds_submitted_documents c.in_ok-submitted_statements_command.field-0 c.in_ok-matches.matches c.in_ok-submitted_statements_command.ensures c.in_ok-matches.ensures.parsed

pub returns-in_err-submitted_statements_command-clause-error : goal.returns-in_err-submitted_statements_command-clause-error
returns-in_err-submitted_statements_command-clause-error c =
    memory_of_files submitted_statements_app (map string_bytes c.args.words.now) c.from_residual.result c.from_residual.ensures.1

pub returns-in_err-inputs-clause-error : goal.returns-in_err-inputs-clause-error
returns-in_err-inputs-clause-error c =
    memory_of_files submitted_statements_app (map string_bytes c.args.words.now) c.from_residual-in_err-inputs.result c.from_residual-in_err-inputs.ensures.1

pub returns-in_err-asked-in-Ok-clause-error : goal.returns-in_err-asked-in-Ok-clause-error
returns-in_err-asked-in-Ok-clause-error c =
    memory_of_files submitted_statements_app (map string_bytes c.args.words.now) c.from_residual-in_err-asked-in-Ok.result c.from_residual-in_err-asked-in-Ok.ensures.1

pub returns-in_err-submitted_statements_command-in-Err-clause-error : goal.returns-in_err-submitted_statements_command-in-Err-clause-error
returns-in_err-submitted_statements_command-in-Err-clause-error c =
    memory_of_files submitted_statements_app (map string_bytes c.args.words.now) c.from_residual-in_err-submitted_statements_command-in-Err.result c.from_residual-in_err-submitted_statements_command-in-Err.ensures.1

pub returns-in_err-wrong_files-in-Err-clause-error : goal.returns-in_err-wrong_files-in-Err-clause-error
returns-in_err-wrong_files-in-Err-clause-error c =
    memory_of_files submitted_statements_app (map string_bytes c.args.words.now) c.from_residual-in_err-wrong_files-in-Err.result c.from_residual-in_err-wrong_files-in-Err.ensures.1

pub returns-in-Ok-clause-inputs : goal.returns-in-Ok-clause-inputs
returns-in-Ok-clause-inputs c =
    let words = map string_bytes c.args.words.now in
    let command = c.in_ok-submitted_statements_command.field-0 in
    let rows = rows_of_submitted_statements command c.in_ok-matches.matches words c.in_ok-submitted_statements_command.ensures c.in_ok-matches.ensures.matches in
    rw c.in_ok-asked-in-Ok.ensures.inputs ((rw c.in-Ok.is at c.in_ok-inputs.ensures.inputs) submitted_statements_app words rows)

pub returns-in-Ok-clause-chosen : goal.returns-in-Ok-clause-chosen
returns-in-Ok-clause-chosen c =
    let words = map string_bytes c.args.words.now in
    c.in_ok-asked-in-Ok.ensures.chosen submitted_statements_app words
    (rows_of_submitted_statements c.in_ok-submitted_statements_command.field-0 c.in_ok-matches.matches words c.in_ok-submitted_statements_command.ensures c.in_ok-matches.ensures.matches)

pub returns-clause-error : goal.returns-clause-error
returns-clause-error c =
    let words = map string_bytes c.args.words.now in
    let command = c.in_ok-submitted_statements_command.field-0 in
    let s = c.in_ok-submitted_statements_command.ensures in
    let rows = rows_of_submitted_statements command c.in_ok-matches.matches words s c.in_ok-matches.ensures.matches in
    inr (record {
      accepted = accepted_by submitted_statements_app command words s.inputs.has.shape submitted_statements_free c.in_ok-matches.ensures.kinds;
      files = (rw c.in-Err.is at c.in_ok-inputs.ensures.wrong) submitted_statements_app words rows;
      kind = c.in_ok-wrong_files-in-Err.ensures;
    })
