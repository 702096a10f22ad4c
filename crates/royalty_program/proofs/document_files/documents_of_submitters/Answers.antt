use Rattle.std.proofs.Common.{map, refl}
use Rattle.std.proofs.lemmas.Option.{IfSome_then}
use Rattle.std.specs.Prelude.{string_bytes}
use Rattle.royalty_program.specs.SubmittedFiles.{paths_of}
use Rattle.royalty_program.proofs.SubmittedFileLemmas.{of_inputs}
use Rattle.royalty_program.proofs.document_files.documents_of_submitters.Goals as goal

pub returns-in-Ok-clause-documents : goal.returns-in-Ok-clause-documents
returns-in-Ok-clause-documents g c =
    IfSome_then c.in-Ok.written (rw c.as_slice.ensures.value at c.in-Ok.ensures.documents)
    (λ written made. (made.0, record { tables = _; read = c.in_ok-tables.ensures.read; documents_of = made.1 }, made.2))

pub returns-in-Err-clause-files : goal.returns-in-Err-clause-files
returns-in-Err-clause-files g c =
    let inputs = c.args.inputs in
    let holds = g.S.Source.holds c.args.files.now in
    let refuses = g.S.Source.refuses c.args.files.now in
    of_inputs holds refuses (map string_bytes inputs.files.paths.items) c.in-Err.fault c.what_failed.result
    c.what_failed.ensures.said c.what_failed.ensures.beyond (paths_of inputs) refl
    (record { tables = _; read = c.in_ok-tables.ensures.read; fault_of = rw c.as_slice.ensures.value at c.in-Err.ensures.fault })
