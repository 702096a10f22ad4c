use Rattle.std.proofs.Common.{inl, inr, map, refl}
use Rattle.std.specs.Prelude.{string_bytes}
use Rattle.clap.proofs.TakesLemmas.{passed_up}
use Rattle.royalty_program.specs.ImportCommand.{IsImportError, import_app, import_names}
use Rattle.royalty_program.proofs.ImportLemmas.{import_free, import_options, memory_of_import, rows_of_import}
use Rattle.royalty_program.proofs.OptionLemmas.{error_is}
use Rattle.royalty_program.proofs.SubmittedLemmas.{accepted_by}
use Rattle.royalty_program.proofs.import_command.read_import.Goals as goal

pub returns-in_err-import_command-clause-error : goal.returns-in_err-import_command-clause-error
returns-in_err-import_command-clause-error c = memory_of_import (map string_bytes c.args.words.now) c.from_residual.result c.from_residual.ensures.1

pub returns-in_err-matches-clause-error : goal.returns-in_err-matches-clause-error
returns-in_err-matches-clause-error c =
    let words = map string_bytes c.args.words.now in
    let command = c.in_ok-import_command.field-0 in
    let is = error_is command import_names import_app words c.in_err-matches.field-0.0 (import_options command c.in_ok-import_command.ensures) import_free c.in_err-matches.ensures.kinds in
    passed_up c.from_residual-in_err-matches.result c.in_err-matches.field-0.0 (IsImportError words) c.from_residual-in_err-matches.ensures.1 (inl is)

pub returns-in_err-message-clause-error : goal.returns-in_err-message-clause-error
returns-in_err-message-clause-error c = memory_of_import (map string_bytes c.args.words.now) c.from_residual-in_err-message.result c.from_residual-in_err-message.ensures.1

pub returns-in_err-import_command-2-clause-error : goal.returns-in_err-import_command-2-clause-error
returns-in_err-import_command-2-clause-error c = memory_of_import (map string_bytes c.args.words.now) c.from_residual-in_err-import_command-2.result c.from_residual-in_err-import_command-2.ensures.1

pub returns-in_err-wrong_files-clause-error : goal.returns-in_err-wrong_files-clause-error
returns-in_err-wrong_files-clause-error c = memory_of_import (map string_bytes c.args.words.now) c.from_residual-in_err-wrong_files.result c.from_residual-in_err-wrong_files.ensures.1

pub returns-in_err-asked-clause-error : goal.returns-in_err-asked-clause-error
returns-in_err-asked-clause-error c = memory_of_import (map string_bytes c.args.words.now) c.from_residual-in_err-asked.result c.from_residual-in_err-asked.ensures.1

pub returns-in-Some-clause-error : goal.returns-in-Some-clause-error
returns-in-Some-clause-error c =
    let words = map string_bytes c.args.words.now in
    let command = c.in_ok-import_command.field-0 in
    let s = c.in_ok-import_command.ensures in
    let rows = rows_of_import command c.in_ok-matches.matches words s c.in_ok-matches.ensures.matches in
    inr (record {
      accepted = accepted_by import_app command words s.has.shape import_free c.in_ok-matches.ensures.kinds;
      unsound = (rw c.in-Some.is at c.in_ok-message.ensures.wrong) refl words rows;
      kind = c.in_ok-wrong_files.ensures;
    })

pub returns-clause-read : goal.returns-clause-read
returns-clause-read c =
    let words = map string_bytes c.args.words.now in
    let rows = rows_of_import c.in_ok-import_command.field-0 c.in_ok-matches.matches words c.in_ok-import_command.ensures c.in_ok-matches.ensures.matches in
    c.in_ok-asked.ensures.found words rows
