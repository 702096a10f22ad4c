use Rattle.std.proofs.Common.{codes, inl, map}
use Rattle.std.specs.Prelude.{string_bytes}
use Rattle.clap.proofs.TakesLemmas.{passed_up}
use Rattle.royalty_program.specs.Asked.{IsSubmittedError}
use Rattle.royalty_program.specs.StartingCommand.{starting_app}
use Rattle.royalty_program.proofs.OptionLemmas.{error_is, rows_are, values_are}
use Rattle.royalty_program.proofs.StartingLemmas.{finds_files_of, starting_free, starting_names, starting_options, starting_simple}
use Rattle.royalty_program.proofs.SubmittedLemmas.{accepted_by, memory_of_files, named_by_words, wrong_values}
use Rattle.royalty_program.proofs.starting_command.read_starting.Goals as goal

pub returns-in_err-matches-clause-error : goal.returns-in_err-matches-clause-error
returns-in_err-matches-clause-error c =
    let words = map string_bytes c.args.words.now in
    let table = c.args.table in
    let command = c.in_ok-starting_command.field-0 in
    let is = error_is command starting_names (starting_app table) words c.in_err-matches.field-0.0 (starting_options table command c.in_ok-starting_command.ensures) (starting_free table) c.in_err-matches.ensures.kinds in
    passed_up c.from_residual-in_err-matches.result c.in_err-matches.field-0.0 (IsSubmittedError (starting_app table) words) c.from_residual-in_err-matches.ensures.1 (inl is)

pub unwrap-requires : goal.unwrap-requires
unwrap-requires c = finds_files_of _ c.args.table c.in_ok-starting_command.field-0 c.in_ok-matches.matches c.get_strs.result
    c.in_ok-starting_command.ensures c.in_ok-matches.ensures.parsed c.get_strs.ensures

pub returns-in_err-starting_command-clause-error : goal.returns-in_err-starting_command-clause-error
returns-in_err-starting_command-clause-error c = memory_of_files (starting_app c.args.table) (map string_bytes c.args.words.now) c.from_residual.result c.from_residual.ensures.1

pub returns-in_err-files-clause-error : goal.returns-in_err-files-clause-error
returns-in_err-files-clause-error c = memory_of_files (starting_app c.args.table) (map string_bytes c.args.words.now) c.from_residual-in_err-files.result c.from_residual-in_err-files.ensures.1

pub returns-in-Ok-clause-files : goal.returns-in-Ok-clause-files
returns-in-Ok-clause-files c =
    let words = map string_bytes c.args.words.now in
    let table = c.args.table in
    let m = c.in_ok-matches.matches in
    let rows = rows_are c.in_ok-starting_command.field-0 starting_names (starting_app table) m words (starting_options table c.in_ok-starting_command.field-0 c.in_ok-starting_command.ensures) (starting_simple table) c.in_ok-matches.ensures.matches in
    let given = values_are _ (starting_app table) m words (codes "cwr") c.get_strs.result c.unwrap.result rows c.get_strs.ensures c.unwrap.ensures in
    named_by_words (starting_app table) words _ _ given (rw c.in-Ok.is at c.in_ok-files.ensures.named)

pub returns-in_err-starting_command-in-Err-clause-error : goal.returns-in_err-starting_command-in-Err-clause-error
returns-in_err-starting_command-in-Err-clause-error c =
    memory_of_files (starting_app c.args.table) (map string_bytes c.args.words.now) c.from_residual-in_err-starting_command-in-Err.result c.from_residual-in_err-starting_command-in-Err.ensures.1

pub returns-in_err-wrong_files-in-Err-clause-error : goal.returns-in_err-wrong_files-in-Err-clause-error
returns-in_err-wrong_files-in-Err-clause-error c =
    memory_of_files (starting_app c.args.table) (map string_bytes c.args.words.now) c.from_residual-in_err-wrong_files-in-Err.result c.from_residual-in_err-wrong_files-in-Err.ensures.1

pub returns-clause-error : goal.returns-clause-error
returns-clause-error c =
    let words = map string_bytes c.args.words.now in
    let table = c.args.table in
    let command = c.in_ok-starting_command.field-0 in
    let s = c.in_ok-starting_command.ensures in
    let m = c.in_ok-matches.matches in
    let rows = rows_are command starting_names (starting_app table) m words (starting_options table command s) (starting_simple table) c.in_ok-matches.ensures.matches in
    let given = values_are _ (starting_app table) m words (codes "cwr") c.get_strs.result c.unwrap.result rows c.get_strs.ensures c.unwrap.ensures in
    wrong_values (starting_app table) words _ _ (accepted_by (starting_app table) command words s.has.shape (starting_free table) c.in_ok-matches.ensures.kinds) given
    (rw c.in-Err.is at c.in_ok-files.ensures.wrong) c.in_ok-wrong_files-in-Err.ensures
