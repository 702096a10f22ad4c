use Rattle.std.proofs.Common.{inl, inr, map}
use Rattle.std.specs.Prelude.{string_bytes}
use Rattle.clap.proofs.TakesLemmas.{passed_up}
use Rattle.royalty_program.specs.Asked.{IsSubmittedError}
use Rattle.royalty_program.specs.SubmittedCommand.{submitted_explain_app}
use Rattle.royalty_program.proofs.OptionLemmas.{error_is}
use Rattle.royalty_program.proofs.SubmittedLemmas.{accepted_by, finds_tables, memory_of_files, row_is_too, row_read_too, rows_of_submitted_explain, submitted_explain_free, submitted_explain_names, submitted_explain_options}
use Rattle.royalty_program.proofs.submitted_command.read_submitted_explain.Goals as goal

pub returns-in_err-matches-clause-error : goal.returns-in_err-matches-clause-error
returns-in_err-matches-clause-error c =
    let words = map string_bytes c.args.words.now in
    let command = c.in_ok-submitted_explain_command.field-0 in
    let is = error_is command submitted_explain_names submitted_explain_app words c.in_err-matches.field-0.0 (submitted_explain_options command c.in_ok-submitted_explain_command.ensures) submitted_explain_free c.in_err-matches.ensures.kinds in
    passed_up c.from_residual-in_err-matches.result c.in_err-matches.field-0.0 (IsSubmittedError submitted_explain_app words) c.from_residual-in_err-matches.ensures.1 (inl is)

pub read_submitted_inputs-requires : goal.read_submitted_inputs-requires
read_submitted_inputs-requires c =
    let command = c.in_ok-submitted_explain_command.field-0 in
    let s = c.in_ok-submitted_explain_command.ensures in
    finds_tables command c.in_ok-matches.matches _ _ submitted_explain_app s.inputs (submitted_explain_options command s) c.in_ok-matches.ensures.parsed

pub unwrap-row-requires : goal.unwrap-row-requires
unwrap-row-requires c = (row_read_too c.in_ok-submitted_explain_command.field-0 c.in_ok-matches.matches c.get_one.result
    c.in_ok-submitted_explain_command.ensures c.in_ok-matches.ensures.parsed c.get_one.ensures.value).0

pub returns-in_err-submitted_explain_command-clause-error : goal.returns-in_err-submitted_explain_command-clause-error
returns-in_err-submitted_explain_command-clause-error c = memory_of_files submitted_explain_app (map string_bytes c.args.words.now) c.from_residual.result c.from_residual.ensures.1

pub returns-in_err-inputs-clause-error : goal.returns-in_err-inputs-clause-error
returns-in_err-inputs-clause-error c = memory_of_files submitted_explain_app (map string_bytes c.args.words.now) c.from_residual-in_err-inputs.result c.from_residual-in_err-inputs.ensures.1

pub returns-in_err-submitted_explain_command-in-Err-clause-error : goal.returns-in_err-submitted_explain_command-in-Err-clause-error
returns-in_err-submitted_explain_command-in-Err-clause-error c = memory_of_files submitted_explain_app (map string_bytes c.args.words.now) c.from_residual-in_err-submitted_explain_command-in-Err.result c.from_residual-in_err-submitted_explain_command-in-Err.ensures.1

pub returns-in_err-wrong_files-in-Err-clause-error : goal.returns-in_err-wrong_files-in-Err-clause-error
returns-in_err-wrong_files-in-Err-clause-error c = memory_of_files submitted_explain_app (map string_bytes c.args.words.now) c.from_residual-in_err-wrong_files-in-Err.result c.from_residual-in_err-wrong_files-in-Err.ensures.1

pub returns-in-Ok-clause-inputs : goal.returns-in-Ok-clause-inputs
returns-in-Ok-clause-inputs c =
    let words = map string_bytes c.args.words.now in
    let rows = rows_of_submitted_explain c.in_ok-submitted_explain_command.field-0 c.in_ok-matches.matches words c.in_ok-submitted_explain_command.ensures c.in_ok-matches.ensures.matches in
    (rw c.in-Ok.is at c.in_ok-inputs.ensures.inputs) submitted_explain_app words rows

pub returns-in-Ok-clause-row : goal.returns-in-Ok-clause-row
returns-in-Ok-clause-row c =
    let command = c.in_ok-submitted_explain_command.field-0 in
    let words = map string_bytes c.args.words.now in
    let s = c.in_ok-submitted_explain_command.ensures in
    let rows = rows_of_submitted_explain command c.in_ok-matches.matches words s c.in_ok-matches.ensures.matches in
    row_is_too command c.in_ok-matches.matches words c.get_one.result c.unwrap-row.result s c.in_ok-matches.ensures.parsed rows c.get_one.ensures.value c.unwrap-row.ensures

pub returns-clause-error : goal.returns-clause-error
returns-clause-error c =
    let words = map string_bytes c.args.words.now in
    let command = c.in_ok-submitted_explain_command.field-0 in
    let s = c.in_ok-submitted_explain_command.ensures in
    let rows = rows_of_submitted_explain command c.in_ok-matches.matches words s c.in_ok-matches.ensures.matches in
    inr (record {
      accepted = accepted_by submitted_explain_app command words s.inputs.has.shape submitted_explain_free c.in_ok-matches.ensures.kinds;
      files = (rw c.in-Err.is at c.in_ok-inputs.ensures.wrong) submitted_explain_app words rows;
      kind = c.in_ok-wrong_files-in-Err.ensures;
    })
