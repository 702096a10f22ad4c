use Rattle.std.proofs.Common.{◌∙◌, codes, map}
use Rattle.std.specs.Prelude.{string_bytes}
use Rattle.clap.proofs.CallerLemmas.{some_of_text}
use Rattle.clap.proofs.TakesLemmas.{passed_up}
use Rattle.royalty_program.specs.AdjustCommand.{adjust_app}
use Rattle.royalty_program.specs.Asked.{IsErrorOf}
use Rattle.royalty_program.proofs.AdjustLemmas.{accepted_is, adjust_free, adjust_names, adjust_options, adjust_simple, has_paid, has_right}
use Rattle.royalty_program.proofs.OptionLemmas.{error_is, memory_is, path_if_is, path_is, rows_are}
use Rattle.royalty_program.proofs.adjust_command.read_adjust.Goals as goal

pub returns-in_err-adjust_command-clause-error : goal.returns-in_err-adjust_command-clause-error
returns-in_err-adjust_command-clause-error c = memory_is adjust_app (map string_bytes c.args.words.now) c.from_residual.result c.from_residual.ensures.1

pub returns-in_err-matches-clause-error : goal.returns-in_err-matches-clause-error
returns-in_err-matches-clause-error c =
    let words = map string_bytes c.args.words.now in
    let command = c.in_ok-adjust_command.field-0 in
    let is = error_is command adjust_names adjust_app words c.in_err-matches.field-0.0 (adjust_options command c.in_ok-adjust_command.ensures) adjust_free c.in_err-matches.ensures.kinds in
    passed_up c.from_residual-in_err-matches.result c.in_err-matches.field-0.0 (IsErrorOf adjust_app words) c.from_residual-in_err-matches.ensures.1 is

pub returns-in_err-output-clause-error : goal.returns-in_err-output-clause-error
returns-in_err-output-clause-error c = memory_is adjust_app (map string_bytes c.args.words.now) c.from_residual-in_err-output.result c.from_residual-in_err-output.ensures.1

pub returns-in_err-paid-clause-error : goal.returns-in_err-paid-clause-error
returns-in_err-paid-clause-error c = memory_is adjust_app (map string_bytes c.args.words.now) c.from_residual-in_err-paid.result c.from_residual-in_err-paid.ensures.1

pub returns-in_err-right-clause-error : goal.returns-in_err-right-clause-error
returns-in_err-right-clause-error c = memory_is adjust_app (map string_bytes c.args.words.now) c.from_residual-in_err-right.result c.from_residual-in_err-right.ensures.1

pub unwrap-requires : goal.unwrap-requires
unwrap-requires c = some_of_text _ c.get_str-2.result _ c.get_str-2.ensures (has_paid c.in_ok-adjust_command.field-0 c.in_ok-matches.matches c.in_ok-adjust_command.ensures c.in_ok-matches.ensures.parsed)

pub unwrap-requires-2 : goal.unwrap-requires-2
unwrap-requires-2 c = some_of_text _ c.get_str-3.result _ c.get_str-3.ensures (has_right c.in_ok-adjust_command.field-0 c.in_ok-matches.matches c.in_ok-adjust_command.ensures c.in_ok-matches.ensures.parsed)

pub returns-clause-read : goal.returns-clause-read
returns-clause-read c =
    let words = map string_bytes c.args.words.now in
    let command = c.in_ok-adjust_command.field-0 in
    let m = c.in_ok-matches.matches in
    let s = c.in_ok-adjust_command.ensures in
    let rows = rows_are command adjust_names adjust_app m words (adjust_options command s) adjust_simple c.in_ok-matches.ensures.matches in record {
      accepted = accepted_is command words s c.in_ok-matches.ensures.kinds;
      output = c.in_ok-output.ensures ∙ path_if_is adjust_app m words (codes "output") c.get_str.result rows c.get_str.ensures;
      paid = c.in_ok-paid.ensures.ok ∙ path_is adjust_app m words (codes "PAID") c.get_str-2.result c.unwrap.result rows c.get_str-2.ensures c.unwrap.ensures;
      right = c.in_ok-right.ensures.ok ∙ path_is adjust_app m words (codes "RIGHT") c.get_str-3.result c.unwrap-2.result rows c.get_str-3.ensures c.unwrap-2.ensures;
    }
