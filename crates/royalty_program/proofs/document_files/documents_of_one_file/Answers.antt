use Rattle.std.proofs.lemmas.Option.{IfSome_then}
use Rattle.std.specs.Prelude.{string_bytes}
use Rattle.run_inputs.specs.Inputs.{map_inputs}
use Rattle.royalty_program.proofs.FileLemmas.{fails, is_refusal}
use Rattle.royalty_program.proofs.document_files.documents_of_one_file.Goals as goal

pub returns-in-Ok-clause-documents : goal.returns-in-Ok-clause-documents
returns-in-Ok-clause-documents g c =
    IfSome_then c.in-Ok.written c.in-Ok.ensures.documents (λ written made. (made.0, record { files = _; read = c.in_ok-inputs.ensures.read; documents_of = made.1 }, made.2))

pub returns-clause-failure : goal.returns-clause-failure
returns-clause-failure g c = rw c.from.ensures (is_refusal c.in-Err.fault)

pub returns-clause-files : goal.returns-clause-files
returns-clause-files g c =
    rw c.from.ensures (fails (g.S.Source.holds c.args.files.now) (g.S.Source.refuses c.args.files.now) (map_inputs string_bytes c.args.inputs) c.in-Err.fault
    (record { files = _; read = c.in_ok-inputs.ensures.read; fault_of = c.in-Err.ensures.fault }))
