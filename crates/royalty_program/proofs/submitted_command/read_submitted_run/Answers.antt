use Rattle.std.proofs.Common.{◌∙◌, codes, inl, inr, map}
use Rattle.std.specs.Prelude.{string_bytes}
use Rattle.clap.proofs.TakesLemmas.{passed_up}
use Rattle.royalty_program.specs.Asked.{IsSubmittedError}
use Rattle.royalty_program.specs.SubmittedCommand.{submitted_app}
use Rattle.royalty_program.proofs.OptionLemmas.{error_is, path_if_is}
use Rattle.royalty_program.proofs.SubmittedLemmas.{accepted_by, finds_plan_too, finds_tables, memory_of_files, rows_of_submitted, submitted_free, submitted_names, submitted_options}
use Rattle.royalty_program.proofs.submitted_command.read_submitted_run.Goals as goal

pub returns-in_err-matches-clause-error : goal.returns-in_err-matches-clause-error
returns-in_err-matches-clause-error c =
    let words = map string_bytes c.args.words.now in
    let command = c.in_ok-submitted_command.field-0 in
    let is = error_is command submitted_names submitted_app words c.in_err-matches.field-0.0 (submitted_options command c.in_ok-submitted_command.ensures) submitted_free c.in_err-matches.ensures.kinds in
    passed_up c.from_residual-in_err-matches.result c.in_err-matches.field-0.0 (IsSubmittedError submitted_app words) c.from_residual-in_err-matches.ensures.1 (inl is)

pub read_submitted_inputs-requires : goal.read_submitted_inputs-requires
read_submitted_inputs-requires c =
    let command = c.in_ok-submitted_command.field-0 in
    let s = c.in_ok-submitted_command.ensures in
    finds_tables command c.in_ok-matches.matches _ _ submitted_app s.inputs (submitted_options command s) c.in_ok-matches.ensures.parsed

pub read_plan-plan-requires : goal.read_plan-plan-requires
read_plan-plan-requires c = finds_plan_too c.in_ok-submitted_command.field-0 c.in_ok-matches.matches c.in_ok-submitted_command.ensures c.in_ok-matches.ensures.parsed

pub returns-in_err-submitted_command-clause-error : goal.returns-in_err-submitted_command-clause-error
returns-in_err-submitted_command-clause-error c = memory_of_files submitted_app (map string_bytes c.args.words.now) c.from_residual.result c.from_residual.ensures.1

pub returns-in_err-inputs-clause-error : goal.returns-in_err-inputs-clause-error
returns-in_err-inputs-clause-error c = memory_of_files submitted_app (map string_bytes c.args.words.now) c.from_residual-in_err-inputs.result c.from_residual-in_err-inputs.ensures.1

pub returns-in_err-output-clause-error : goal.returns-in_err-output-clause-error
returns-in_err-output-clause-error c = memory_of_files submitted_app (map string_bytes c.args.words.now) c.from_residual-in_err-output.result c.from_residual-in_err-output.ensures.1

pub returns-in_err-submitted_command-in-Err-clause-error : goal.returns-in_err-submitted_command-in-Err-clause-error
returns-in_err-submitted_command-in-Err-clause-error c = memory_of_files submitted_app (map string_bytes c.args.words.now) c.from_residual-in_err-submitted_command-in-Err.result c.from_residual-in_err-submitted_command-in-Err.ensures.1

pub returns-in_err-wrong_files-in-Err-clause-error : goal.returns-in_err-wrong_files-in-Err-clause-error
returns-in_err-wrong_files-in-Err-clause-error c = memory_of_files submitted_app (map string_bytes c.args.words.now) c.from_residual-in_err-wrong_files-in-Err.result c.from_residual-in_err-wrong_files-in-Err.ensures.1

pub returns-in-Ok-clause-inputs : goal.returns-in-Ok-clause-inputs
returns-in-Ok-clause-inputs c =
    let words = map string_bytes c.args.words.now in
    let rows = rows_of_submitted c.in_ok-submitted_command.field-0 c.in_ok-matches.matches words c.in_ok-submitted_command.ensures c.in_ok-matches.ensures.matches in
    (rw c.in-Ok.is at c.in_ok-inputs.ensures.inputs) submitted_app words rows

pub returns-in-Ok-clause-plan : goal.returns-in-Ok-clause-plan
returns-in-Ok-clause-plan c =
    let words = map string_bytes c.args.words.now in
    c.read_plan-plan.ensures submitted_app words (rows_of_submitted c.in_ok-submitted_command.field-0 c.in_ok-matches.matches words c.in_ok-submitted_command.ensures c.in_ok-matches.ensures.matches)

pub returns-in-Ok-clause-output : goal.returns-in-Ok-clause-output
returns-in-Ok-clause-output c =
    let words = map string_bytes c.args.words.now in
    let rows = rows_of_submitted c.in_ok-submitted_command.field-0 c.in_ok-matches.matches words c.in_ok-submitted_command.ensures c.in_ok-matches.ensures.matches in
    c.in_ok-output.ensures ∙ path_if_is submitted_app c.in_ok-matches.matches words (codes "output") c.get_str.result rows c.get_str.ensures

pub returns-clause-error : goal.returns-clause-error
returns-clause-error c =
    let words = map string_bytes c.args.words.now in
    let command = c.in_ok-submitted_command.field-0 in
    let s = c.in_ok-submitted_command.ensures in
    let rows = rows_of_submitted command c.in_ok-matches.matches words s c.in_ok-matches.ensures.matches in
    inr (record {
      accepted = accepted_by submitted_app command words s.inputs.has.shape submitted_free c.in_ok-matches.ensures.kinds;
      files = (rw c.in-Err.is at c.in_ok-inputs.ensures.wrong) submitted_app words rows;
      kind = c.in_ok-wrong_files-in-Err.ensures;
    })
