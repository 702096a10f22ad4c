use Rattle.std.specs.Prelude.{option_map, string_bytes}
use Rattle.std.proofs.lemmas.Result.{err_from_is_err_and}
use Rattle.clap.proofs.TakesLemmas.{passed_up}
use Rattle.royalty_program.specs.DocumentFiles.{IsOfNames}
use Rattle.royalty_program.proofs.NamesLemmas.{of_refused, of_unread}
use Rattle.royalty_program.proofs.document_files.territories_of.Goals as goal

pub returns-in_err-file-clause-files : goal.returns-in_err-file-clause-files
returns-in_err-file-clause-files g c =
    let holds = g.S.Source.holds c.args.files.now in
    let refuses = g.S.Source.refuses c.args.files.now in
    let failure = c.in_err-file.field-0.0 in
    passed_up c.from_residual.result failure (IsOfNames holds refuses (option_map string_bytes c.args.path)) c.from_residual.ensures.1 (of_unread holds refuses failure c.args.path c.in_err-file.ensures.given c.in_err-file.ensures.failure)

pub returns-in_err-read-in-Some-clause-files : goal.returns-in_err-read-in-Some-clause-files
returns-in_err-read-in-Some-clause-files g c =
    let holds = g.S.Source.holds c.args.files.now in
    let refuses = g.S.Source.refuses c.args.files.now in
    let exit = err_from_is_err_and c.from_residual-in_err-read-in-Some.result c.from_residual-in_err-read-in-Some.ensures.1 in
    let held = rw c.in-Some.is at c.in_ok-file.ensures.bytes in
    rw exit.1 (of_refused holds refuses exit.0 c.args.path c.in-Some.file.bytes.items c.in_err-read-in-Some.field-0.0 held (rw c.as_slice.ensures.value at c.in_err-read-in-Some.ensures.fault) exit.2)
